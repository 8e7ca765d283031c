use Rattle.desk_numbers.proofs.PlainLemmas.{nothing_changes}
use Rattle.desk_numbers.proofs.laws.with_none_moved_nothing_changes.Goals as goal

pub returns : goal.returns
returns c = nothing_changes
