-- How many calendar months have passed from one day to another.
use Rattle.std.specs.Prelude.{◌≡◌, ◌↔◌, ◌⊎◌, ◌<◌, ℕ, ℤ, pos, ◌+ℤ◌, ◌*ℤ◌, ◌<ℤ◌, int_lt, nat_lt, Bool, true, ◌&&◌, ◌||◌}
use Rattle.std.specs.Ordering.{int_eq}
use Rattle.jiff_core.specs.Calendar.{days_in_month}
use Rattle.court_clock.specs.Day.{IsDayNumber}
use Rattle.court_clock.specs.Day.Date.{CivilDate, date_of}

-- the number of the month that is so many after that of a date, where January of the year 0 is 1
abbrev pub month_of_date : (months : ℕ) → CivilDate → ℤ
month_of_date months date = date.year *ℤ pos 12 +ℤ pos date.month +ℤ pos months

abbrev pub month_after : (months : ℕ) → (day : ℤ) → ℤ
month_after months day = month_of_date months (date_of day)

-- the day of its month, from 1
abbrev pub day_in_month : (day : ℤ) → ℕ
day_in_month day = (date_of day).day

-- More than so many calendar months have passed from a day to another: its month is later than the one that is so many after the first
-- day's, or it is that one and the day has a greater number in it.
abbrev pub has_passed : (months : ℕ) → (since day : ℤ) → Bool
has_passed months since day =
    int_lt (month_after months since) (month_after 0 day)
    || (int_eq (month_after months since) (month_after 0 day) && nat_lt (day_in_month since) (day_in_month day))

-- The months end with a day: it is in the month that is so many after that of the first, and it has the same number, or is the last of a
-- month that has no such number.
pub record IsEndOfMonths (months : ℕ) (since end : ℤ) : Type 0 where
  pub month : month_after 0 end ≡ month_after months since
  pub number : (day_in_month end ≡ day_in_month since) ⊎ ((day_in_month end ≡ days_in_month (date_of end).year (date_of end).month) × (day_in_month end < day_in_month since))

-- more than so many months have passed on each day after the one with which they end, and on no other
abbrev pub MonthsPass : Type 0
MonthsPass = (months : ℕ) (since end day : ℤ) → IsDayNumber end → IsDayNumber day → IsEndOfMonths months since end → (has_passed months since day ≡ true) ↔ (end <ℤ day)
