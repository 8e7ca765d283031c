use Rattle.std.proofs.Common.{◌∙◌, ℕ, List, Option, ap, sym}
use Rattle.std.specs.Prelude.{slice_index_or}
use Rattle.desk_numbers.specs.declared.given.Given.{Given}
use Rattle.desk_numbers.specs.Kept.{after_given}
use Rattle.desk_numbers.specs.Tops.{slot_of}
use Rattle.desk_numbers.proofs.TopLemmas.{none_at}
use Rattle.desk_numbers.proofs.kept.KeptNumbers.new.Goals as goal

pub invariant_of-result : goal.invariant_of-result
unfolding after_given
invariant_of-result c case counted =
    ap (λ (t : List ℕ). slice_index_or t (slot_of case counted) 0) c.new-2.ensures ∙ none_at (slot_of case counted)
    ∙ sym (ap (λ (rows : List (Option Given)). after_given rows case counted) c.new.ensures.items)
