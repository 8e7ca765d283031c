-- The dates of the years 1970 to 2199 are days, and a weekday of a month is found from its first day.
use Rattle.std.proofs.Common.{◌≡◌, ◌∙◌, ◌+◌, ◌-◌, ◌*◌, ◌%◌, ◌≤◌, ℕ, ℤ, pos, ◌+ℤ◌, ◌≤ℤ◌, to_z, of_z, w16, arith, rules, refl, ap, sym}
use Rattle.jiff_core.specs.declared.civil.date.Date.{Date}
use Rattle.jiff_core.specs.Calendar.{days_from_civil, day_count, days_in_month, IsCivilDate}
use Rattle.jiff_core.specs.Date.{epoch_day}
use Rattle.jiff_core.proofs.SignedLemmas.{signed_arith}
use Rattle.jiff_core.proofs.MarchLemmas.{day_count-early}
use Rattle.jiff_core.proofs.CalendarLemmas.{days_from_civil-day_count, day_count-lt_year, day_count-epoch, day_count-next_year, day_count-last_of_year, days_in_month_bounds}
use Rattle.jiff_core.proofs.DateLemmas.{civil}
use Rattle.jiff_core.specs.declared.civil.weekday.Weekday.{Weekday}
use Rattle.jiff_core.specs.Weekday.{monday_zero}
use Rattle.jiff_tz.specs.Year.{year_of_day}
use Rattle.jiff_tz.proofs.YearLemmas.{back_year, year_of_day-date}
use Rattle.court_clock.specs.Words.{IsDayNumber, weekday_of}
use Rattle.court_holidays.specs.Dates.{IsNear}
use Rattle.court_holidays.specs.Weekdays.{nth_weekday}

-- 2200-01-01
end_of_stated : day_count (pos 2200) 1 1 ≡ 4_455_959
end_of_stated = day_count-early (pos 2200) 12199 1 1 refl (omega arith) (omega arith) (omega arith)

-- 1969-12-31
before_stated : day_count (pos 1969) 12 31 ≡ 4_371_952
before_stated =
    omega (arith, signed_arith, day_count-epoch, day_count-last_of_year (pos 1969), day_count-next_year (pos 1969) (pos 1970) (omega (arith, signed_arith)) refl)

-- a date of these years is a day from 1970-01-01 to 2199-12-31
pub stated_date : (y : ℤ) (m d : ℕ) → IsCivilDate y m d → pos 1970 ≤ℤ y → y ≤ℤ pos 2199 → (pos 0 ≤ℤ days_from_civil y m d) × (days_from_civil y m d ≤ℤ pos 84_005)
stated_date y m d date low high =
    let last : IsCivilDate (pos 1969) 12 31 = search rules in
    let after = day_count-lt_year (pos 1969) 12 31 y m d last date.2.0 (omega (arith, signed_arith, low)) in
    let before = day_count-lt_year y m d (pos 2200) 1 1 date (omega arith) (omega (arith, signed_arith, high)) in
    let counted = days_from_civil-day_count y m d in
    (omega (arith, signed_arith, after, before_stated, counted), omega (arith, signed_arith, before, end_of_stated, counted))

pub stated_day : (date : Date) → pos 1970 ≤ℤ date.year → date.year ≤ℤ pos 2199 → IsDayNumber (epoch_day date)
stated_day date low high =
    let between = stated_date date.year date.month date.day (civil date) low high in
    record { low = omega (arith, signed_arith, between.0); high = omega (arith, signed_arith, between.1) }

-- each February has a 22nd
pub february_22 : (y : ℤ) → pos 22 ≤ℤ pos (days_in_month y 2)
february_22 y = let long = days_in_month_bounds y 2 in omega (arith, signed_arith, long.1)

pub stated_near : (date : Date) (d : ℤ) → pos 1970 ≤ℤ date.year → date.year ≤ℤ pos 2199 → d ≡ epoch_day date → IsNear 0 d
stated_near date d low high is =
    let between = stated_date date.year date.month date.day (civil date) low high in
    (omega (arith, signed_arith, between.0, is), omega (arith, signed_arith, between.1, is))

-- the year of a day is that of the date with its number
pub year_is : (date : Date) (d : ℤ) → epoch_day date ≡ d → to_z w16 (of_z w16 date.year) ≡ year_of_day d
year_is date d is = back_year date.year date.year_in ∙ sym (year_of_day-date date) ∙ ap year_of_day is

-- the nth weekday of a month, from the month's first day
pub nth_from_first : (n m : ℕ) (w : Weekday) (y : ℤ) → 1 ≤ n → days_from_civil y m 1 +ℤ pos ((monday_zero w + 7 - weekday_of (days_from_civil y m 1)) % 7 + 7 * (n - 1)) ≡ nth_weekday n w m y
unfolding nth_weekday
nth_from_first n m w y first = omega (arith, signed_arith)
