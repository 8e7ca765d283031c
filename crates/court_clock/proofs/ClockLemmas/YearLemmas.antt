-- The days up to the end of a year are days of that year.
use Rattle.std.proofs.Common.{◌≡◌, ℕ, ◌+◌, ℤ, pos, neg_ℤ, ◌+ℤ◌, ◌-ℤ◌, ◌≤ℤ◌, unsigned_abs, refl, sym, ap, ◌∙◌, arith}
use Rattle.jiff_core.specs.Calendar.{days_from_civil, days_of_months}
use Rattle.jiff_core.proofs.CalendarLemmas.{days_of_months_all, days_of_months_more, days_in_year_bounds}
use Rattle.jiff_core.proofs.SignedLemmas.{signed_arith}
use Rattle.jiff_core.specs.Date.{epoch_day, IsYmd}
use Rattle.jiff_core.specs.declared.civil.date.Date.{Date}
use Rattle.jiff_tz.specs.Year.{years_within, year_of_day}
use Rattle.jiff_tz.proofs.YearLemmas.{years_within_is, year_of_day-date}
use Rattle.court_clock.specs.Clock.Stretch.{IsLastOfYear}
use Rattle.court_clock.proofs.DayLemmas.DateLemmas.{days_of_years-more, days_of_years_bounds, years_within-fit, years_within-most, years_within_bound, nonneg_abs, days_from_civil-parts}

-- the last day of the year of a day
year_end : (day last : ℤ) → neg_ℤ (pos 112_000) ≤ℤ day → day ≤ℤ pos 112_000 → last ≡ days_from_civil (year_of_day day) 12 31 → IsLastOfYear day last
year_end day last low high end =
    let count : ℕ = unsigned_abs (day +ℤ pos 4_371_953) in
    let whole = nonneg_abs (day +ℤ pos 4_371_953) (omega (arith, signed_arith, low)) in
    let k : ℕ = years_within 20000 count in
    let y : ℤ = pos k -ℤ pos 10000 in
    let all_years = days_of_years_bounds 20001 in
    let fits = years_within-fit 20000 count in
    let most = years_within-most 20000 count (omega (arith, signed_arith, whole, high, all_years.0)) in
    let next_year = days_of_years-more k in
    let december = days_from_civil-parts k 11 30 in
    let all_months = days_of_months_all y in
    let month : days_of_months y 12 ≡ days_of_months y 11 + 31 = days_of_months_more y 12 (omega arith) in
    let bounds = days_in_year_bounds y in
    record {
      later = omega (arith, signed_arith, end, december, whole, most, next_year, all_months, month);
      near = omega (arith, signed_arith, end, december, whole, fits, all_months, month, bounds.0);
      same_year = λ d after before.
          let whole_d = nonneg_abs (d +ℤ pos 4_371_953) (omega (arith, signed_arith, low, after)) in
          let same = years_within_is 20000 k (unsigned_abs (d +ℤ pos 4_371_953)) (years_within_bound 20000 count) (omega (arith, signed_arith, whole, whole_d, fits, after)) (omega (arith, signed_arith, whole_d, before, end, december, next_year, all_months, month)) in
          ap (λ n. pos n -ℤ pos 10000) same;
    }

pub last_of_year_is : (day : ℤ) (date last : Date) (n : ℤ) → neg_ℤ (pos 112_000) ≤ℤ day → day ≤ℤ pos 112_000 → epoch_day date ≡ day → IsYmd date.year (pos 12) (pos 31) last → n ≡ epoch_day last → IsLastOfYear day n
last_of_year_is day date last n low high value ymd is =
    let year : last.year ≡ year_of_day day = ymd.0 ∙ sym (year_of_day-date date) ∙ ap year_of_day value in
    let month : last.month ≡ 12 = omega (arith, signed_arith, ymd.1) in
    let place : last.day ≡ 31 = omega (arith, signed_arith, ymd.2) in
    let december : days_from_civil last.year last.month last.day ≡ days_from_civil (year_of_day day) 12 31 = rw (year, month, place) refl in
    year_end day n low high (is ∙ december)
