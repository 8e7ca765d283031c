-- A holiday is observed on the day in whose place it is.
use Rattle.std.proofs.Common.{◌≡◌, ◌==◌, ◌⊎◌, inl, inr, ℕ, ℤ, pos, ◌+ℤ◌, ◌-ℤ◌, Bool, true, false, Option, Some, None, if◌then◌else◌, arith, refl, ap, sym, ◌∙◌}
use Rattle.jiff_core.proofs.SignedLemmas.{signed_arith}
use Rattle.court_clock.specs.Words.{weekday_of}
use Rattle.court_holidays.specs.declared.federal.statute.FederalHoliday.{FederalHoliday}
use Rattle.court_holidays.specs.Federal.Calendar.{holiday_on, is_kept}
use Rattle.court_holidays.specs.Federal.Observed.{beside_weekend, observed_for, observed_on, ObservedAreInPlace}
use Rattle.court_holidays.proofs.FederalLemmas.PlaceLemmas.{if_so, some_same}
use Rattle.court_holidays.proofs.FederalLemmas.OnDayLemmas.{of_day}

eq_is : (a b : ℕ) → (a == b) ≡ true → a ≡ b
eq_is a b h = grind arith

is_eq : (a b : ℕ) → a ≡ b → (a == b) ≡ true
is_eq a b h = grind arith

zero_not_four : (a : ℕ) → a ≡ 0 → (a == 4) ≡ false
zero_not_four a h = grind arith

six_not_five : (a : ℕ) → a ≡ 6 → (a == 5) ≡ false
six_not_five a h = grind arith

-- an answer that comes by one of two tests
either_case : {A : Type 0} (x y : Bool) (a b : Option A) (h : A) → (if x then a else if y then b else None) ≡ Some h → ((x ≡ true) × (a ≡ Some h)) ⊎ ((y ≡ true) × (b ≡ Some h))
either_case true y a b h is = inl (refl, is)
either_case false true a b h is = inr (refl, is)
either_case false false a b h is = absurd (cc)

first_case : {A : Type 0} (x y : Bool) (a b : Option A) → x ≡ true → (if x then a else if y then b else None) ≡ a
first_case true y a b h = refl
first_case false y a b h = absurd (cc)

second_case : {A : Type 0} (x y : Bool) (a b : Option A) → x ≡ false → y ≡ true → (if x then a else if y then b else None) ≡ b
second_case true y a b h k = absurd (cc)
second_case false true a b h k = refl
second_case false false a b h k = absurd (cc)

-- the day in whose place a day beside a weekend is
beside_cases : (e d : ℤ) → beside_weekend e ≡ Some d → ((weekday_of e ≡ 5) × (e ≡ d +ℤ pos 1)) ⊎ ((weekday_of e ≡ 6) × (e ≡ d -ℤ pos 1))
beside_cases e d is = elim (either_case (weekday_of e == 5) (weekday_of e == 6) (Some (e -ℤ pos 1)) (Some (e +ℤ pos 1)) d is) [
  | inl saturday ↦ (let back : e -ℤ pos 1 ≡ d = some_same (e -ℤ pos 1) d saturday.1 in inl (eq_is (weekday_of e) 5 saturday.0, omega (arith, signed_arith, back)))
  | inr sunday ↦ (let on : e +ℤ pos 1 ≡ d = some_same (e +ℤ pos 1) d sunday.1 in inr (eq_is (weekday_of e) 6 sunday.0, omega (arith, signed_arith, on)))
]

beside_saturday : (e d : ℤ) → e ≡ d +ℤ pos 1 → weekday_of e ≡ 5 → beside_weekend e ≡ Some d
beside_saturday e d is saturday =
    let back : e -ℤ pos 1 ≡ d = omega (arith, signed_arith, is) in
    first_case (weekday_of e == 5) (weekday_of e == 6) (Some (e -ℤ pos 1)) (Some (e +ℤ pos 1)) (is_eq (weekday_of e) 5 saturday) ∙ ap Some back

beside_sunday : (e d : ℤ) → e ≡ d -ℤ pos 1 → weekday_of e ≡ 6 → beside_weekend e ≡ Some d
beside_sunday e d is sunday =
    let on : e +ℤ pos 1 ≡ d = omega (arith, signed_arith, is) in
    second_case (weekday_of e == 5) (weekday_of e == 6) (Some (e -ℤ pos 1)) (Some (e +ℤ pos 1)) (six_not_five (weekday_of e) sunday) (is_eq (weekday_of e) 6 sunday) ∙ ap Some on

-- a holiday that each court has is observed beside the weekend
observed_beside : (h : FederalHoliday) (e d : ℤ) → holiday_on e false ≡ Some h → beside_weekend e ≡ Some d → observed_for h e ≡ Some d
unfolding observed_for
observed_beside h e d held beside = rw (of_day e h held).0 beside

pub observed_are_in_place : ObservedAreInPlace
unfolding observed_for observed_on
observed_are_in_place d h = (
  (λ is. elim (either_case (weekday_of d == 4) (weekday_of d == 0) (holiday_on (d +ℤ pos 1) false) (holiday_on (d -ℤ pos 1) false) h is) [
    | inl friday ↦
        let e : ℤ = d +ℤ pos 1 in
        let saturday : weekday_of e ≡ 5 = omega (arith, signed_arith, eq_is (weekday_of d) 4 friday.0) in
        (e, (friday.1, observed_beside h e d friday.1 (beside_saturday e d refl saturday)))
    | inr monday ↦
        let e : ℤ = d -ℤ pos 1 in
        let sunday : weekday_of e ≡ 6 = omega (arith, signed_arith, eq_is (weekday_of d) 0 monday.0) in
        (e, (monday.1, observed_beside h e d monday.1 (beside_sunday e d refl sunday)))
  ]),
  (λ given.
      let e : ℤ = given.0 in
      let held = given.1.0 in
      let beside = if_so (is_kept false h) (beside_weekend e) d given.1.1 in
      elim (beside_cases e d beside.1) [
        | inl saturday ↦
            let friday : weekday_of d ≡ 4 = omega (arith, signed_arith, saturday.0, saturday.1) in
            first_case (weekday_of d == 4) (weekday_of d == 0) (holiday_on (d +ℤ pos 1) false) (holiday_on (d -ℤ pos 1) false) (is_eq (weekday_of d) 4 friday) ∙ ap (λ x. holiday_on x false) (sym saturday.1) ∙ held
        | inr sunday ↦
            let monday : weekday_of d ≡ 0 = omega (arith, signed_arith, sunday.0, sunday.1) in
            second_case (weekday_of d == 4) (weekday_of d == 0) (holiday_on (d +ℤ pos 1) false) (holiday_on (d -ℤ pos 1) false) (zero_not_four (weekday_of d) monday) (is_eq (weekday_of d) 0 monday) ∙ ap (λ x. holiday_on x false) (sym sunday.1) ∙ held
      ]),
)
