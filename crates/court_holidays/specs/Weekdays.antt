-- The nth and the last Monday, or other weekday, of a month.
use Rattle.std.specs.Prelude.{◌≡◌, ◌↔◌, ◌≤◌, ℕ, ◌+◌, ◌-◌, ◌*◌, ◌%◌, ℤ, pos, ◌+ℤ◌, ◌-ℤ◌, ◌≤ℤ◌}
use Rattle.jiff_core.specs.declared.civil.weekday.Weekday.{Weekday}
use Rattle.jiff_core.specs.Weekday.{monday_zero}
use Rattle.jiff_core.specs.Calendar.{days_from_civil, days_in_month}
use Rattle.court_clock.specs.Words.{weekday_of}

-- the first such weekday at or after a day
abbrev pub weekday_from : Weekday → ℤ → ℤ
weekday_from w d = d +ℤ pos ((monday_zero w + 7 - weekday_of d) % 7)

-- the last such weekday at or before a day
abbrev pub weekday_to : Weekday → ℤ → ℤ
weekday_to w d = d -ℤ pos ((weekday_of d + 7 - monday_zero w) % 7)

-- the nth such weekday of a month: n - 1 weeks after its first
unfoldable pub nth_weekday : ℕ → Weekday → ℕ → ℤ → ℤ
nth_weekday n w month year = weekday_from w (days_from_civil year month 1) +ℤ pos (7 * (n - 1))

-- the last such weekday of a month
unfoldable pub last_weekday : Weekday → ℕ → ℤ → ℤ
last_weekday w month year = weekday_to w (days_from_civil year month (days_in_month year month))

-- the day lies in the month
pub record IsInMonth (month : ℕ) (year d : ℤ) : Type 0 where
  pub from_its_first : days_from_civil year month 1 ≤ℤ d
  pub to_its_last : d ≤ℤ days_from_civil year month (days_in_month year month)

-- r is the nth such weekday of the month: n - 1 weeks before it the day is one of the month too, and n weeks before it isn't
pub record IsNthWeekday (n : ℕ) (w : Weekday) (month : ℕ) (year r : ℤ) : Type 0 where
  pub weekday : weekday_of r ≡ monday_zero w
  pub in_month : IsInMonth month year r
  pub earlier : IsInMonth month year (r -ℤ pos (7 * (n - 1)))
  pub no_more : ¬ IsInMonth month year (r -ℤ pos (7 * n))

-- r is the last such weekday of the month: a week later is another month
pub record IsLastWeekday (w : Weekday) (month : ℕ) (year r : ℤ) : Type 0 where
  pub weekday : weekday_of r ≡ monday_zero w
  pub in_month : IsInMonth month year r
  pub no_later : ¬ IsInMonth month year (r +ℤ pos 7)

-- what they mean
abbrev pub WeekdaysAreCounted : Type 0
WeekdaysAreCounted = (n : ℕ) (w : Weekday) (month : ℕ) (year r : ℤ) → 1 ≤ n → n ≤ 4 → (nth_weekday n w month year ≡ r) ↔ IsNthWeekday n w month year r

abbrev pub LastWeekdaysAreLast : Type 0
LastWeekdaysAreLast = (w : Weekday) (month : ℕ) (year r : ℤ) → (last_weekday w month year ≡ r) ↔ IsLastWeekday w month year r
