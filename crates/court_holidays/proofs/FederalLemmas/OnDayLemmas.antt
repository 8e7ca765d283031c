-- The holiday that a day is: the one whose day the law sets there.
use Rattle.std.proofs.Common.{◌≡◌, ◌⊎◌, inl, inr, ◌<◌, ℕ, zero, suc, ℤ, Bool, true, false, List, [], ◌∷◌, length, get_or, Option, Some, None, arith, refl, ap, sym, subst, ◌∙◌}
use Rattle.std.specs.List.{find}
use Rattle.std.specs.Ordering.{int_eq}
use Rattle.std.proofs.lemmas.Bool.{cases_Bool}
use Rattle.std.proofs.lemmas.Int.{ints}
use Rattle.jiff_tz.specs.Year.{year_of_day}
use Rattle.jiff_tz.proofs.YearLemmas.{year_of_day-date}
use Rattle.court_holidays.specs.declared.federal.statute.FederalHoliday.{FederalHoliday}
use Rattle.court_holidays.specs.declared.federal.statute.FederalHoliday.TheVariants.{NewYearsDay, BirthdayOfMartinLutherKingJr, InaugurationDay, WashingtonsBirthday, MemorialDay, Juneteenth, IndependenceDay, LaborDay, ColumbusDay, VeteransDay, ThanksgivingDay, ChristmasDay}
use Rattle.court_holidays.specs.Federal.Statute.{set_in}
use Rattle.court_holidays.specs.Federal.Calendar.{all_holidays, is_kept, kept_on, is_day, holiday_on, DaysAreTheirHolidays}
use Rattle.court_holidays.proofs.FederalLemmas.PlaceLemmas.{if_so, placed, no_two_share_a_day}

-- a holiday's day is of the year for which it's set
pub set_year : (h : FederalHoliday) (y d : ℤ) → set_in h y ≡ Some d → year_of_day d ≡ y
set_year h y d is = let dated = placed h y d is in ap year_of_day (sym dated.number) ∙ year_of_day-date dated.date ∙ dated.year

is_day-is : (d : ℤ) (o : Option ℤ) → is_day d o ≡ true → o ≡ Some d
is_day-is d None h = absurd (cc)
is_day-is d (Some e) h = let equal : int_eq e d ≡ true = h in let same : e ≡ d = grind (arith, ints) in ap Some same

is_day-same : (d : ℤ) (o : Option ℤ) → o ≡ Some d → is_day d o ≡ true
is_day-same d None h = absurd (cc)
is_day-same d (Some e) h = let same : e ≡ d = cc in let equal : int_eq e d ≡ true = grind (arith, ints) in equal

find-passes : {X : Type 0} (p : X → Bool) (xs : List X) (x : X) → find p xs ≡ Some x → p x ≡ true
find-passes p [] x h = absurd (cc)
find-passes p (y ∷ ys) x h = elim (cases_Bool (p y)) [
  | inl passes ↦ (let found : Some y ≡ Some x = rw passes at h in let same : y ≡ x = cc in ap p (sym same) ∙ passes)
  | inr fails ↦ find-passes p ys x (rw fails at h)
]

find-fails : {X : Type 0} (p : X → Bool) (xs : List X) (i : ℕ) (d : X) → i < length xs → find p xs ≡ None → p (get_or xs i d) ≡ false
find-fails p [] i d within none = absurd (omega (arith, within))
find-fails p (y ∷ ys) zero d within none = elim (cases_Bool (p y)) [
  | inl passes ↦ (let found : Some y ≡ None = rw passes at none in absurd (cc))
  | inr fails ↦ fails
]
find-fails p (y ∷ ys) (suc i) d within none = elim (cases_Bool (p y)) [
  | inl passes ↦ (let found : Some y ≡ None = rw passes at none in absurd (cc))
  | inr fails ↦ find-fails p ys i d (omega (arith, within)) (rw fails at none)
]

-- the place of a holiday among all, if it is one that each court has
record IsAt (h : FederalHoliday) : Type 0 where
  place : ℕ
  within : place < length all_holidays
  is : get_or all_holidays place h ≡ h
  kept : is_kept false h ≡ true

at_place : (h : FederalHoliday) → ¬ (h ≡ InaugurationDay) → IsAt h
at_place NewYearsDay other = record { place = 0; within = omega arith; is = refl; kept = refl }
at_place BirthdayOfMartinLutherKingJr other = record { place = 1; within = omega arith; is = refl; kept = refl }
at_place InaugurationDay other = absurd (other refl)
at_place WashingtonsBirthday other = record { place = 3; within = omega arith; is = refl; kept = refl }
at_place MemorialDay other = record { place = 4; within = omega arith; is = refl; kept = refl }
at_place Juneteenth other = record { place = 5; within = omega arith; is = refl; kept = refl }
at_place IndependenceDay other = record { place = 6; within = omega arith; is = refl; kept = refl }
at_place LaborDay other = record { place = 7; within = omega arith; is = refl; kept = refl }
at_place ColumbusDay other = record { place = 8; within = omega arith; is = refl; kept = refl }
at_place VeteransDay other = record { place = 9; within = omega arith; is = refl; kept = refl }
at_place ThanksgivingDay other = record { place = 10; within = omega arith; is = refl; kept = refl }
at_place ChristmasDay other = record { place = 11; within = omega arith; is = refl; kept = refl }

-- what passes at a court outside the capital's region
pub passes_is : (h : FederalHoliday) (y d : ℤ) → is_day d (kept_on false y h) ≡ true → (is_kept false h ≡ true) × (set_in h y ≡ Some d)
passes_is h y d is = if_so (is_kept false h) (set_in h y) d (is_day-is d (kept_on false y h) is)

other : (h : FederalHoliday) → is_kept false h ≡ true → ¬ (h ≡ InaugurationDay)
other h kept same = let no : is_kept false InaugurationDay ≡ true = subst (λ k. is_kept false k ≡ true) same kept in absurd (cc)

found_or : (o : Option FederalHoliday) → (o ≡ None) ⊎ ((k : FederalHoliday) × (o ≡ Some k))
found_or None = inl refl
found_or (Some k) = inr (k, refl)

-- the holiday that a day is
pub of_day : (d : ℤ) (h : FederalHoliday) → holiday_on d false ≡ Some h → (is_kept false h ≡ true) × (set_in h (year_of_day d) ≡ Some d)
unfolding holiday_on
of_day d h found = passes_is h (year_of_day d) d (find-passes (λ k. is_day d (kept_on false (year_of_day d) k)) all_holidays h found)

pub days_are_their_holidays : DaysAreTheirHolidays
unfolding holiday_on
days_are_their_holidays d h = (
  (λ found. let is = of_day d h found in (other h is.0, (year_of_day d, is.1))),
  (λ given.
      let p : FederalHoliday → Bool = λ k. is_day d (kept_on false (year_of_day d) k) in
      let year = set_year h given.1.0 d given.1.1 in
      let here : set_in h (year_of_day d) ≡ Some d = ap (set_in h) year ∙ given.1.1 in
      let spot = at_place h given.0 in
      elim (found_or (find p all_holidays)) [
        | inl none ↦
            let kept : kept_on false (year_of_day d) h ≡ Some d = rw spot.kept here in
            let fails : p (get_or all_holidays spot.place h) ≡ false = find-fails p all_holidays spot.place h spot.within none in
            let clash : true ≡ false = sym (is_day-same d (kept_on false (year_of_day d) h) kept) ∙ sym (ap p spot.is) ∙ fails in
            absurd (cc)
        | inr found ↦
            let is = of_day d found.0 found.1 in
            let same = no_two_share_a_day found.0 h (year_of_day d) (year_of_day d) d (other found.0 is.0) given.0 is.1 here in
            found.1 ∙ ap Some same.0
      ]),
)
