-- Each day has its date.
use Rattle.std.proofs.Common.{◌≡◌, ℕ, zero, suc, ◌+◌, ◌-◌, ◌*◌, ◌≤◌, ◌<◌, ℤ, pos, negsuc, ◌+ℤ◌, ◌-ℤ◌, ◌≤ℤ◌, arith, refl, ap, ◌∙◌, inl, inr, unsigned_abs}
use Rattle.std.proofs.lemmas.Bool.Decides.{leb_tells}
use Rattle.jiff_core.specs.Calendar.{days_from_civil, days_in_year, day_count, days_of_years, days_of_months}
use Rattle.jiff_core.proofs.CalendarLemmas.{days_from_civil-day_count, days_in_year_bounds, days_of_months_all, days_of_months_more, days_of_months-zero}
use Rattle.jiff_core.proofs.SignedLemmas.{signed_arith}
use Rattle.jiff_tz.specs.Year.{years_within}
use Rattle.court_clock.specs.Day.Date.{months_within, days_before_in_year, date_of, DaysHaveDates}

pub days_of_years-more : (n : ℕ) → days_of_years (suc n) ≡ days_of_years n + days_in_year (pos n -ℤ pos 10000)
unfolding days_of_years
days_of_years-more n = refl

-- a year has 365 or 366 days
pub days_of_years_bounds : (n : ℕ) → (365 * n ≤ days_of_years n) × (days_of_years n ≤ 366 * n)
unfolding days_of_years
days_of_years_bounds zero = (omega arith, omega arith)
days_of_years_bounds (suc n) =
    let before = days_of_years_bounds n in
    let year = days_in_year_bounds (pos n -ℤ pos 10000) in
    (omega (arith, before.0, year.1), omega (arith, before.1, year.0))

-- the years found fit, and one more doesn't
pub years_within-fit : (n count : ℕ) → days_of_years (years_within n count) ≤ count
unfolding years_within days_of_years
years_within-fit zero count = omega arith
years_within-fit (suc n) count = elim (leb_tells (days_of_years (suc n)) count) [
  | inl fits ↦ rw fits.0 fits.1
  | inr over ↦ rw over.0 (years_within-fit n count)
]

pub years_within-most : (n count : ℕ) → count < days_of_years (suc n) → count < days_of_years (suc (years_within n count))
unfolding years_within
years_within-most zero count below = below
years_within-most (suc n) count below = elim (leb_tells (days_of_years (suc n)) count) [
  | inl fits ↦ rw fits.0 below
  | inr over ↦ rw over.0 (years_within-most n count over.1)
]

pub years_within_bound : (n count : ℕ) → years_within n count ≤ n
unfolding years_within
years_within_bound zero count = omega arith
years_within_bound (suc n) count = elim (leb_tells (days_of_years (suc n)) count) [
  | inl fits ↦ rw fits.0 (omega arith)
  | inr over ↦ rw over.0 (let smaller = years_within_bound n count in omega (arith, smaller))
]

-- the months found fit, and one more doesn't
months_within-fit : (year : ℤ) (n count : ℕ) → days_of_months year (months_within year n count) ≤ count
unfolding months_within days_of_months
months_within-fit year zero count = omega arith
months_within-fit year (suc n) count = elim (leb_tells (days_of_months year (suc n)) count) [
  | inl fits ↦ rw fits.0 fits.1
  | inr over ↦ rw over.0 (months_within-fit year n count)
]

months_within-most : (year : ℤ) (n count : ℕ) → count < days_of_months year (suc n) → count < days_of_months year (suc (months_within year n count))
unfolding months_within
months_within-most year zero count below = below
months_within-most year (suc n) count below = elim (leb_tells (days_of_months year (suc n)) count) [
  | inl fits ↦ rw fits.0 below
  | inr over ↦ rw over.0 (months_within-most year n count over.1)
]

months_within_bound : (year : ℤ) (n count : ℕ) → months_within year n count ≤ n
unfolding months_within
months_within_bound year zero count = omega arith
months_within_bound year (suc n) count = elim (leb_tells (days_of_months year (suc n)) count) [
  | inl fits ↦ rw fits.0 (omega arith)
  | inr over ↦ rw over.0 (let smaller = months_within_bound year n count in omega (arith, smaller))
]

pub nonneg_abs : (z : ℤ) → pos 0 ≤ℤ z → pos (unsigned_abs z) ≡ z
nonneg_abs (pos n) h = refl
nonneg_abs (negsuc n) h = absurd (omega (arith, signed_arith, h))

-- the day number of a date, in whole years, whole months and days
pub days_from_civil-parts : (k m day : ℕ) → days_from_civil (pos k -ℤ pos 10000) (suc m) (suc day) ≡ pos (days_of_years k + (days_of_months (pos k -ℤ pos 10000) m + day)) -ℤ pos 4_371_953
unfolding day_count
days_from_civil-parts k m day =
    let y : ℤ = pos k -ℤ pos 10000 in
    let shifted = nonneg_abs (y +ℤ pos 10000) (omega (arith, signed_arith)) in
    let back : unsigned_abs (y +ℤ pos 10000) ≡ k = omega (arith, signed_arith, shifted) in
    let parts = days_from_civil-day_count y (suc m) (suc day) in
    let count : day_count y (suc m) (suc day) ≡ days_of_years (unsigned_abs (y +ℤ pos 10000)) + (days_of_months y (suc m - 1) + suc day - 1) = refl in
    let count' : day_count y (suc m) (suc day) ≡ days_of_years k + (days_of_months y (suc m - 1) + suc day - 1) = count ∙ ap (λ n. days_of_years n + (days_of_months y (suc m - 1) + suc day - 1)) back in
    let month : days_of_months y (suc m - 1) ≡ days_of_months y m = ap (days_of_months y) (omega arith) in
    omega (arith, signed_arith, parts, count', month)

pub days_have_dates : DaysHaveDates
unfolding date_of
days_have_dates d number =
    let count : ℕ = unsigned_abs (d +ℤ pos 4_371_953) in
    let whole = nonneg_abs (d +ℤ pos 4_371_953) (omega (arith, signed_arith, number.low)) in
    let k : ℕ = years_within 20000 count in
    let y : ℤ = pos k -ℤ pos 10000 in
    let all_years = days_of_years_bounds 20001 in
    let fits = years_within-fit 20000 count in
    let most = years_within-most 20000 count (omega (arith, signed_arith, whole, number.high, all_years.0)) in
    let year_days = days_of_years-more k in
    let these_years = days_of_years_bounds k in
    let more_years = days_of_years_bounds (suc k) in
    let start = days_from_civil-parts k 0 0 in
    let january = days_of_months-zero y in
    let place : ℕ = days_before_in_year d in
    let from_start = nonneg_abs (d -ℤ days_from_civil y 1 1) (omega (arith, signed_arith, whole, start, january, fits)) in
    let m : ℕ = months_within y 11 place in
    let month_fits = months_within-fit y 11 place in
    let all_months = days_of_months_all y in
    let month_most = months_within-most y 11 place (omega (arith, signed_arith, whole, start, january, from_start, all_months, year_days, most)) in
    let month_bound = months_within_bound y 11 place in
    let month_days = days_of_months_more y (suc m) (omega arith) in
    let month_before : days_of_months y (suc m - 1) ≡ days_of_months y m = ap (days_of_months y) (omega arith) in
    let day = days_from_civil-parts k m (place - days_of_months y m) in
    record {
      civil = (
        (omega (arith, signed_arith, whole, number.low, number.high, most, fits, these_years.0, more_years.1), omega (arith, signed_arith, whole, number.low, number.high, most, fits, these_years.0, more_years.1)),
        (omega arith, omega (arith, month_bound)),
        (omega arith, omega (arith, month_fits, month_most, month_days, month_before)),
      );
      counted = omega (arith, signed_arith, day, month_fits, from_start, start, january, whole);
    }
