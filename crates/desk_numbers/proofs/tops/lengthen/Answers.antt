use Rattle.std.proofs.Common.{◌∙◌, ℕ, List, ap}
use Rattle.std.specs.Prelude.{slice_index_or}
use Rattle.desk_numbers.proofs.TopLemmas.{zero_more}
use Rattle.desk_numbers.proofs.tops.lengthen.Goals as goal

pub zeros-preserved : goal.zeros-preserved
zeros-preserved c = λ s. ap (λ (l : List ℕ). slice_index_or l s 0) c.in_ok-push.ensures.items ∙ zero_more c.zeros.list.items s ∙ c.zeros.invariant s
