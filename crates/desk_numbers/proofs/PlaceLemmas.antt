-- Numbers and places of what isn't at its place.
use Rattle.std.proofs.Common.{◌≡◌, ◌∙◌, ℕ, Bool, true, false, cond, ◌||◌, List, [], ◌∷◌, ◌++◌, Option, Some, None, find, nat_eq, refl, ap, arith}
use Rattle.std.proofs.lemmas.Bool.Decides.{nat_tests}
use Rattle.std.specs.List.{list_any}
use Rattle.docket_rows.specs.declared.command.Counted.{Counted}
use Rattle.docket_rows.specs.declared.command.Counted.TheVariants.{Deadline, Motion}
use Rattle.desk_numbers.specs.declared.moved.Moved.{Moved}
use Rattle.docket_rows.specs.Words.{are_alike}
use Rattle.desk_numbers.specs.Laws.{APlaceApartTellsItsNumber, NumberAndPlaceGoTogether, OthersAreAtTheirPlaces}
use Rattle.desk_numbers.specs.Moved.{has_number, is_at, number_in, number_of, place_apart, place_in, place_of}

pub none_found : {X : Type 0} (p : X → Bool) (xs : List X) → list_any p xs ≡ false → find p xs ≡ None
none_found p [] h = refl
none_found p (x ∷ xs) h = by (p x) h (λ rest. none_found p xs rest)
  where
    by : (b : Bool) → (b || list_any p xs) ≡ false → (list_any p xs ≡ false → find p xs ≡ None) → cond b (Some x) (find p xs) ≡ None
    by true h rest = cc h
    by false h rest = rest h

pub found_after : {X : Type 0} (p : X → Bool) (front back : List X) (x : X) → list_any p front ≡ false → p x ≡ true → find p (front ++ x ∷ back) ≡ Some x
found_after p [] back x h is = rw is refl
found_after p (y ∷ front) back x h is = by (p y) h (λ rest. found_after p front back x rest is)
  where
    by : (b : Bool) → (b || list_any p front) ≡ false → (list_any p front ≡ false → find p (front ++ x ∷ back) ≡ Some x) → cond b (Some y) (find p (front ++ x ∷ back)) ≡ Some x
    by true h rest = cc h
    by false h rest = rest h

same : (n : ℕ) → nat_eq n n ≡ true
same n = grind (arith, nat_tests)

alike : (c : Counted) → are_alike c c ≡ true
alike Deadline = refl
alike Motion = refl

its_number : (m : Moved) → has_number m.case m.counted m.number m ≡ true
its_number m = rw (same m.case, alike m.counted, same m.number) refl

pub its_place : (m : Moved) → is_at m.case m.counted m.place m ≡ true
its_place m = rw (same m.case, alike m.counted, same m.place) refl

-- the laws
pub go_together : NumberAndPlaceGoTogether
unfolding number_in place_in
go_together front back m number place = (
  ap (λ (found : Option Moved). place_of found (cond (list_any (is_at m.case m.counted m.number) (front ++ m ∷ back)) (place_apart m.number) m.number)) (found_after (has_number m.case m.counted m.number) front back m number (its_number m)),
  ap (λ (found : Option Moved). number_of found m.place) (found_after (is_at m.case m.counted m.place) front back m place (its_place m)),
)

-- what a number names that none of these has
named_by_none : (moved : List Moved) (case : ℕ) (counted : Counted) (n : ℕ) (b : Bool) → list_any (has_number case counted n) moved ≡ false → list_any (is_at case counted n) moved ≡ b → place_in moved case counted n ≡ cond b (place_apart n) n
unfolding place_in
named_by_none moved case counted n b number place =
    ap (λ (found : Option Moved). place_of found (cond (list_any (is_at case counted n) moved) (place_apart n) n)) (none_found (has_number case counted n) moved number)
    ∙ ap (λ t. cond t (place_apart n) n) place

pub at_their_places : OthersAreAtTheirPlaces
unfolding number_in
at_their_places moved case counted n = (
  λ place. ap (λ (found : Option Moved). number_of found n) (none_found (is_at case counted n) moved place),
  λ number place. named_by_none moved case counted n false number place,
  λ number place. named_by_none moved case counted n true number place,
)

pub tells_its_number : APlaceApartTellsItsNumber
tells_its_number n few = (grind (arith, nat_tests), omega arith)
