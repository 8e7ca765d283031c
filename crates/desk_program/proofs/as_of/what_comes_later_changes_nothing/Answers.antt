use Rattle.desk_program.proofs.AsOfLemmas.{later_changes_nothing}
use Rattle.desk_program.proofs.as_of.what_comes_later_changes_nothing.Goals as goal

pub returns : goal.returns
returns c = later_changes_nothing
