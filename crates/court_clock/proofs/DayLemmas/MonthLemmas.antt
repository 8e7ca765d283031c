-- The month of a day, and its number in it, are those of its date; and when months have passed.
use Rattle.std.proofs.Common.{◌≡◌, ◌⊎◌, ◌<◌, ◌≤◌, ℕ, ℤ, pos, ◌+ℤ◌, ◌*ℤ◌, ◌<ℤ◌, int_lt, Bool, true, false, Decides, arith, inl, inr, refl, sym, ap, ap₂}
use Rattle.std.specs.Prelude.{◌&&◌, nat_lt}
use Rattle.std.specs.Ordering.{int_eq}
use Rattle.std.proofs.lemmas.Bool.Decides.{Decides-and, Decides-int_eq, Decides-like, Decides-ltb, Decides-or}
use Rattle.std.proofs.lemmas.Int.{ints}
use Rattle.jiff_core.specs.Calendar.{days_in_month}
use Rattle.jiff_core.specs.Date.{epoch_day}
use Rattle.jiff_core.specs.declared.civil.date.Date.{Date}
use Rattle.jiff_core.proofs.DateLemmas.{IsEarlier, cases_date, epoch_day-lt, epoch_day_same}
use Rattle.jiff_core.proofs.SignedLemmas.{signed_arith}
use Rattle.court_clock.specs.Day.{IsDayNumber}
use Rattle.court_clock.specs.Day.Date.{CivilDate, date_of}
use Rattle.court_clock.specs.Day.Months.{MonthsPass, day_in_month, has_passed, month_after, month_of_date}
use Rattle.court_clock.proofs.DayLemmas.DateLemmas.{days_have_dates}
use Rattle.court_clock.proofs.DayLemmas.TextLemmas.{date_of-same}

-- a date with a day's number has that day's month
pub month_is : (months : ℕ) (d : ℤ) (date : Date) → IsDayNumber d → epoch_day date ≡ d → month_after months d ≡ date.year *ℤ pos 12 +ℤ pos date.month +ℤ pos months
month_is months d date number same = ap (month_of_date months) (date_of-same d date number same)

-- and its number in the month
pub number_is : (d : ℤ) (date : Date) → IsDayNumber d → epoch_day date ≡ d → day_in_month d ≡ date.day
number_is d date number same = ap (λ (c : CivilDate). c.day) (date_of-same d date number same)

-- the date of a day, as jiff holds it
date_at : (d : ℤ) → IsDayNumber d → Date
date_at d number =
    let civil = (days_have_dates d number).civil in
    record { year = (date_of d).year; month = (date_of d).month; day = (date_of d).day; year_in = civil.0; month_in = civil.1; day_in = civil.2 }

-- the number of a date's month
abbrev month_in_date : Date → ℤ
month_in_date a = a.year *ℤ pos 12 +ℤ pos a.month +ℤ pos 0

-- months that end with a date have passed by another: in a later month, or in the same after the number
abbrev IsPast : (month : ℤ) → (number : ℕ) → Date → Type 0
IsPast month number b = (month <ℤ month_in_date b) ⊎ ((month ≡ month_in_date b) × (number < b.day))

abbrev HasNumber : Date → (number : ℕ) → Type 0
HasNumber a number = (a.day ≡ number) ⊎ ((a.day ≡ days_in_month a.year a.month) × (a.day < number))

no_greater : (a : Date) (number : ℕ) → HasNumber a number → a.day ≤ number
no_greater a number (inl same) = omega (arith, same)
no_greater a number (inr (last, less)) = omega (arith, less)

-- in the same month, a later day than the end has a greater number
greater : (a b : Date) (number : ℕ) → HasNumber a number → a.year ≡ b.year → a.month ≡ b.month → a.day < b.day → number < b.day
greater a b number (inl same) year month day = omega (arith, same, day)
greater a b number (inr (last, less)) year month day = absurd (omega (arith, last, day, b.day_in.1, ap₂ days_in_month year month))

later_is_past : (a b : Date) (month : ℤ) (number : ℕ) → month ≡ month_in_date a → HasNumber a number → IsEarlier a b → IsPast month number b
later_is_past a b month number is has (inl year) = inl (omega (arith, signed_arith, is, year, a.month_in.1, b.month_in.0))
later_is_past a b month number is has (inr (year, inl before)) = inl (omega (arith, signed_arith, is, year, before))
later_is_past a b month number is has (inr (year, inr (same, day))) = inr (omega (arith, signed_arith, is, year, same), greater a b number has year same day)

-- a date that isn't later isn't past them
earlier_is_not : (a b : Date) (month : ℤ) (number : ℕ) → month ≡ month_in_date a → a.day ≤ number → IsEarlier b a → IsPast month number b → ⊥
earlier_is_not a b month number is le (inl year) (inl lt) = omega (arith, signed_arith, is, year, lt, b.month_in.1, a.month_in.0)
earlier_is_not a b month number is le (inl year) (inr (e, less)) = omega (arith, signed_arith, is, year, e, b.month_in.1, a.month_in.0)
earlier_is_not a b month number is le (inr (year, inl before)) (inl lt) = omega (arith, signed_arith, is, year, before, lt)
earlier_is_not a b month number is le (inr (year, inl before)) (inr (e, less)) = omega (arith, signed_arith, is, year, before, e)
earlier_is_not a b month number is le (inr (year, inr (same, day))) (inl lt) = omega (arith, signed_arith, is, year, same, lt)
earlier_is_not a b month number is le (inr (year, inr (same, day))) (inr (e, less)) = omega (arith, le, day, less)

same_is_not : (a b : Date) (month : ℤ) (number : ℕ) → month ≡ month_in_date a → a.day ≤ number → a.year ≡ b.year → a.month ≡ b.month → a.day ≡ b.day → IsPast month number b → ⊥
same_is_not a b month number is le year same day (inl lt) = omega (arith, signed_arith, is, year, same, lt)
same_is_not a b month number is le year same day (inr (e, less)) = omega (arith, le, day, less)

-- a test of two whole numbers tells which is less
lt_told : (x y : ℤ) → Decides (int_lt x y) (x <ℤ y)
lt_told x y = ((λ e. omega (arith, ints, e)), (λ lt. by (int_lt x y) refl lt))
  where
    by : (t : Bool) → int_lt x y ≡ t → x <ℤ y → t ≡ true
    by true e lt = refl
    by false e lt = absurd (omega (arith, ints, e, lt))

pub months_pass : MonthsPass
unfolding date_at
months_pass months since end day end_number day_number ends =
    let a : Date = date_at end end_number in
    let b : Date = date_at day day_number in
    let first : epoch_day a ≡ end = (days_have_dates end end_number).counted in
    let second : epoch_day b ≡ day = (days_have_dates day day_number).counted in
    let month : ℤ = month_after months since in
    let number : ℕ = day_in_month since in
    let is : month ≡ month_in_date a = sym ends.month in
    let le : a.day ≤ number = no_greater a number ends.number in
    let told : Decides (has_passed months since day) (IsPast month number b) =
    Decides-or (int_lt month (month_after 0 day)) (int_eq month (month_after 0 day) && nat_lt number (day_in_month day)) (lt_told month (month_after 0 day))
    (Decides-and (int_eq month (month_after 0 day)) (nat_lt number (day_in_month day)) (Decides-int_eq month (month_after 0 day)) (Decides-ltb number (day_in_month day))) in
    Decides-like (has_passed months since day)
    (λ (past : IsPast month number b). elim (cases_date a b) [
      | inl lt ↦ omega (arith, ints, first, second, epoch_day-lt a b lt)
      | inr (inl gt) ↦ absurd (earlier_is_not a b month number is le gt past)
      | inr (inr same) ↦ absurd (same_is_not a b month number is le same.0 same.1 same.2 past)
    ])
    (λ after. elim (cases_date a b) [
      | inl lt ↦ later_is_past a b month number is ends.number lt
      | inr (inl gt) ↦ absurd (omega (arith, ints, first, second, epoch_day-lt b a gt, after))
      | inr (inr same) ↦ absurd (omega (arith, ints, first, second, epoch_day_same a b same.0 same.1 same.2, after))
    ])
    told
