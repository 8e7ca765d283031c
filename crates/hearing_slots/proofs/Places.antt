-- A search of a list that is by number.
use Rattle.std.proofs.Common.{◌≡◌, ℕ, ◌<◌, ◌≤◌, ℤ, ◌<ℤ◌, int_lt, true, false, List, length, get_or, sym, ap, ◌∙◌, subst, arith, inl, inr}
use Rattle.std.specs.List.{AllPairs}
use Rattle.std.specs.List.Sorted.{IsPartitionPoint, IsPartitionedBy}
use Rattle.std.proofs.lemmas.Int.{ints}
use Rattle.std.proofs.lemmas.Bool.{cases_eq}
use Rattle.std.proofs.lemmas.List.{get_or_default}
use Rattle.hearing_slots.specs.Inside.Places.{IsAt, IsGapAt}
use Rattle.hearing_slots.proofs.Filters.{parted}

-- what has a lesser number than a lesser number is less too
lesser_too : (n a b : ℤ) → a <ℤ b → int_lt b n ≡ true → int_lt a n ≡ true
lesser_too n a b before less = grind (arith, ints)

module _ {X : Type 0} (number_of : X → ℤ) where
  abbrev pub Rising : List X → Type 0
  Rising items = AllPairs (λ (x y : X). number_of x <ℤ number_of y) items

  -- a search for the first item that has no lesser number ends at the place
  abbrev pub EndsSearch : ℤ → List X → ℕ → Type 0
  EndsSearch number items place = IsPartitionPoint (λ (x : X). int_lt (number_of x) number ≡ true) (λ (x : X). int_lt (number_of x) number ≡ false) items place

  -- such a search can be made by halves
  pub searchable : (number : ℤ) (items : List X) → Rising items → IsPartitionedBy (λ (x : X). int_lt (number_of x) number) items
  searchable number items rising = parted (λ (x y : X). number_of x <ℤ number_of y) (λ (x : X). int_lt (number_of x) number) items rising (λ a b before less. lesser_too number (number_of a) (number_of b) before less)

  -- the item at the place has the number
  pub found_at : (items : List X) (number : ℤ) (place : ℕ) (e : X) → Rising items → place < length items → EndsSearch number items place → number_of (get_or items place e) ≡ number → IsAt number_of items number place
  found_at items number place e rising within ends same =
      let here : (d : X) → number_of (get_or items place d) ≡ number = λ d. ap number_of (get_or_default items place d e within) ∙ same in
      record {
        in_range = within;
        before = λ k d low high. let less = ends.0 k d low high in omega (arith, ints, less);
        here = here;
        behind = λ k d low high. let more = rising place k d (omega arith) high in omega (arith, ints, more, here d);
      }

  -- the search came to the end
  pub absent_at_end : (items : List X) (number : ℤ) (place : ℕ) → place ≡ length items → EndsSearch number items place → IsGapAt number_of items number place
  absent_at_end items number place end ends = record {
    in_range = omega arith;
    before = λ k d low high. let less = ends.0 k d low high in omega (arith, ints, less);
    behind = λ k d low high. absurd (omega arith);
  }

  -- the item at the place has another number
  pub absent_at : (items : List X) (number : ℤ) (place : ℕ) (e : X) → Rising items → place < length items → EndsSearch number items place → (number_of (get_or items place e) ≡ number → ⊥) → IsGapAt number_of items number place
  absent_at items number place e rising within ends other =
      let low : place ≤ place = omega arith in
      let not_less = ends.1 place e low within in
      let greater : number <ℤ number_of (get_or items place e) = omega (arith, ints, not_less, other) in
      let here : (d : X) → number <ℤ number_of (get_or items place d) = λ d. subst (λ (x : X). number <ℤ number_of x) (sym (get_or_default items place d e within)) greater in
      record {
        in_range = omega arith;
        before = λ k d low high. let less = ends.0 k d low high in omega (arith, ints, less);
        behind = λ k d low high. elim (cases_eq place k) [
          | inl same ↦ subst (λ (n : ℕ). number <ℤ number_of (get_or items n d)) same (here d)
          | inr differ ↦ let more = rising place k d (omega (arith, differ)) high in omega (arith, ints, more, here d)
        ];
      }
