-- What is noted of the numbers that were given.
use Rattle.std.proofs.Common.{◌≡◌, ◌∙◌, ℕ, zero, suc, List, [], ◌∷◌, ◌++◌, Option, drop, max, refl, ap, arith}
use Rattle.std.specs.Prelude.{slice_index_or}
use Rattle.docket_rows.specs.declared.command.Counted.{Counted}
use Rattle.desk_numbers.specs.declared.given.Given.{Given}
use Rattle.desk_numbers.specs.Kept.{after_given}
use Rattle.desk_numbers.specs.Tops.{slot_of}

-- before the first row
pub none_noted : (tops : List ℕ) (rows : List (Option Given)) (case : ℕ) (counted : Counted) → tops ≡ [] → max (slice_index_or tops (slot_of case counted) 0) (after_given (drop 0 rows) case counted) ≡ after_given rows case counted
none_noted tops rows case counted none = ap (λ (t : List ℕ). max (slice_index_or t (slot_of case counted) 0) (after_given rows case counted)) none ∙ omega arith

-- a zero more at the end changes nothing
pub zero_more : (list : List ℕ) (s : ℕ) → slice_index_or (list ++ 0 ∷ []) s 0 ≡ slice_index_or list s 0
zero_more [] zero = refl
zero_more [] (suc s) = refl
zero_more (n ∷ list) zero = refl
zero_more (n ∷ list) (suc s) = zero_more list s

-- nothing is noted in an empty list
pub none_at : (s : ℕ) → ◌≡◌ {A = ℕ} (slice_index_or [] s 0) 0
none_at zero = refl
none_at (suc s) = refl
