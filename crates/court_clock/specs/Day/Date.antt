-- The date of a day in the Gregorian calendar, and its text.
use Rattle.std.specs.Prelude.{◌≡◌, ◌↔◌, ℕ, zero, suc, ◌-◌, ℤ, pos, ◌-ℤ◌, int_le, Bool, true, ◌&&◌, nat_le, unsigned_abs, List, [], ◌∷◌, ◌++◌, Option, Some, if◌then◌else◌}
use Rattle.std.specs.Str.{bytes_eq}
use Rattle.jiff_core.specs.Calendar.{days_of_months, days_from_civil, IsCivilDate}
use Rattle.jiff_tz.specs.Year.{year_of_day}
use Rattle.jiff_fmt.specs.Text.{year_text, pad2}
use Rattle.court_clock.specs.Day.{IsDayNumber}
use Rattle.court_clock.specs.Day.Search.{first_passing, days_through}

-- a year, a month from 1 and a day of the month from 1
pub record CivilDate : Type 0 where
  pub year : ℤ
  pub month : ℕ
  pub day : ℕ

-- the most months, at most n, that fit from the start of the year in that many days
unfoldable pub months_within : ℤ → ℕ → ℕ → ℕ
months_within year zero count = zero
months_within year (suc n) count = if nat_le (days_of_months year (suc n)) count then suc n else months_within year n count

-- how many days of its year come before the day
abbrev pub days_before_in_year : ℤ → ℕ
days_before_in_year d = unsigned_abs (d -ℤ days_from_civil (year_of_day d) 1 1)

-- how many whole months of its year come before the day
abbrev pub months_before : ℤ → ℕ
months_before d = months_within (year_of_day d) 11 (days_before_in_year d)

-- the date of a day
unfoldable pub date_of : ℤ → CivilDate
date_of d = record {
  year = year_of_day d;
  month = suc (months_before d);
  day = suc (days_before_in_year d - days_of_months (year_of_day d) (months_before d));
}

-- `2025-09-02`
abbrev pub date_text : CivilDate → List ℕ
date_text date = year_text date.year ++ 45 ∷ [] ++ pad2 date.month ++ 45 ∷ [] ++ pad2 date.day

-- the text of a day: its date
unfoldable pub day_text : ℤ → List ℕ
day_text d = date_text (date_of d)

-- a day of the years 1900 to 2199
abbrev pub is_written_day : ℤ → Bool
is_written_day d = int_le (days_from_civil (pos 1900) 1 1) d && int_le d (days_from_civil (pos 2199) 12 31)

-- the day of the years 1900 to 2199 that is written so
unfoldable pub day_of_text : List ℕ → Option ℤ
day_of_text text = first_passing (λ d. bytes_eq (day_text d) text) (days_through (days_from_civil (pos 1900) 1 1) (days_from_civil (pos 2199) 12 31)) (days_from_civil (pos 1900) 1 1)

-- what dates mean: the calendar has the date of each day, and the day is the one with that date
pub record IsDateOf (d : ℤ) (date : CivilDate) : Type 0 where
  pub civil : IsCivilDate date.year date.month date.day
  pub counted : days_from_civil date.year date.month date.day ≡ d

abbrev pub DaysHaveDates : Type 0
DaysHaveDates = (d : ℤ) → IsDayNumber d → IsDateOf d (date_of d)

-- what reading a text means: its answer is the one day of the years 1900 to 2199 that is written so
abbrev pub TextsAreDays : Type 0
TextsAreDays = (text : List ℕ) (d : ℤ) → (day_of_text text ≡ Some d) ↔ ((is_written_day d ≡ true) × (day_text d ≡ text))
