-- The first of some parts that wasn't read.
use Rattle.std.proofs.Common.{◌≡◌, ℕ, zero, suc, ◌+◌, ◌-◌, ◌<◌, ◌≤◌, Bool, not, List, [], ◌∷◌, ◌++◌, length, take, find, refl, ap, arith, inl, inr, sub-one, add-one}
use Rattle.std.specs.List.{range_with_len}
use Rattle.std.specs.Option.{option_or}
use Rattle.std.proofs.lemmas.Bool.{cases_Bool}
use Rattle.docket_rows.specs.declared.part.PartId.{PartId}
use Rattle.docket_rows.specs.declared.part.PartValue.{PartValue}
use Rattle.docket_rows.specs.Words.{is_read}
use Rattle.docket_decisions.specs.Inside.Next.{first_unread}

find-append : {X : Type 0} (p : X → Bool) (xs ys : List X) → find p (xs ++ ys) ≡ option_or (find p xs) (find p ys)
find-append p [] ys = refl
find-append p (x ∷ xs) ys = elim (cases_Bool (p x)) [
  | inl passes ↦ rw passes refl
  | inr fails ↦ rw fails (find-append p xs ys)
]

-- the first of those in front, or else of the others
pub first_unread_joined : (reads : List (PartId × PartValue)) (xs ys : List PartId) → first_unread reads (xs ++ ys) ≡ option_or (first_unread reads xs) (first_unread reads ys)
first_unread_joined reads xs ys = find-append (λ part. not (is_read reads part)) xs ys

-- a list that is no longer is taken whole
pub panel_whole : (js : List ℕ) (n : ℕ) → length js ≤ n → take n js ≡ js
panel_whole [] zero h = refl
panel_whole [] (suc n) h = refl
panel_whole (j ∷ js) zero h = absurd (omega arith)
panel_whole (j ∷ js) (suc n) h = ap (λ xs. j ∷ xs) (panel_whole js n (omega arith))

-- some numbers in a row: the first, and those after it
pub range_more : (j n : ℕ) → 0 < n → range_with_len j n ≡ j ∷ range_with_len (j + 1) (n - 1)
range_more j zero h = absurd (omega arith)
range_more j (suc n) h = rw (add-one, sub-one) refl
