-- The rows that are struck, with one more and without one.
use Rattle.std.proofs.Common.{◌≡◌, ◌∙◌, ◌&&◌, ◌||◌, ℕ, Bool, true, false, not, cond, List, [], ◌∷◌, ◌++◌, nat_eq, refl, ap, arith}
use Rattle.std.specs.Prelude.{nat_lt}
use Rattle.std.specs.List.{list_all}
use Rattle.std.proofs.lemmas.Bool.Decides.{nat_tests}
use Rattle.desk_numbers.specs.Strikes.Corrections.{is_among, struck_with, struck_without}
use Rattle.desk_numbers.specs.Strikes.Laws.{ARestoreUndoesItsStrike}

itself : (row : ℕ) → nat_eq row row ≡ true
itself row = grind (arith, nat_tests)

about : (row other : ℕ) → nat_eq row other ≡ nat_eq other row
about row other = grind (arith, nat_tests)

-- without a row that isn't among them they are the same
none_gone : (struck : List ℕ) (row : ℕ) → is_among struck row ≡ false → struck_without (struck ++ row ∷ []) row ≡ struck
none_gone [] row none = ap (λ (b : Bool). cond (not b) (row ∷ []) []) (itself row)
none_gone (other ∷ struck) row none = by (nat_eq other row) (about row other) none (none_gone struck row)
  where
    by : (b : Bool) → nat_eq row other ≡ b → (nat_eq row other || is_among struck row) ≡ false → (is_among struck row ≡ false → struck_without (struck ++ row ∷ []) row ≡ struck)
        → cond (not b) (other ∷ struck_without (struck ++ row ∷ []) row) (struck_without (struck ++ row ∷ []) row) ≡ other ∷ struck
    by true is none rest = cc (rw is at none)
    by false is none rest = ap (λ (l : List ℕ). other ∷ l) (rest (rw is at none))

-- a row that was taken out is among them no more
gone : (struck : List ℕ) (row : ℕ) → is_among (struck_without struck row) row ≡ false
gone [] row = refl
gone (other ∷ struck) row = by (nat_eq other row) (about row other) (gone struck row)
  where
    by : (b : Bool) → nat_eq row other ≡ b → is_among (struck_without struck row) row ≡ false → is_among (cond (not b) (other ∷ struck_without struck row) (struck_without struck row)) row ≡ false
    by true is rest = rest
    by false is rest = ap (λ (a : Bool). a || is_among (struck_without struck row) row) is ∙ rest

-- those that are left come before a number as all did
pub still_before : (struck : List ℕ) (row number : ℕ) → list_all (λ other. nat_lt other number) struck ≡ true → list_all (λ other. nat_lt other number) (struck_without struck row) ≡ true
still_before [] row number all = refl
still_before (other ∷ struck) row number all = by (not (nat_eq other row)) (nat_lt other number) refl all (still_before struck row number)
  where
    by : (b c : Bool) → nat_lt other number ≡ c → (c && list_all (λ other. nat_lt other number) struck) ≡ true
        → (list_all (λ other. nat_lt other number) struck ≡ true → list_all (λ other. nat_lt other number) (struck_without struck row) ≡ true)
        → list_all (λ other. nat_lt other number) (cond b (other ∷ struck_without struck row) (struck_without struck row)) ≡ true
    by true true is all rest = ap (λ (a : Bool). a && list_all (λ other. nat_lt other number) (struck_without struck row)) is ∙ rest all
    by false true is all rest = rest all
    by b false is all rest = cc all

-- the law
pub undone : ARestoreUndoesItsStrike
unfolding struck_with
undone struck row = (λ none. ap (λ (b : Bool). struck_without (cond b struck (struck ++ row ∷ [])) row) none ∙ none_gone struck row none, gone struck row)
