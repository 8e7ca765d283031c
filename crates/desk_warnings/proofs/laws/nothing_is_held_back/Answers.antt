use Rattle.desk_warnings.proofs.CarefulLemmas.{nothing_held}
use Rattle.desk_warnings.proofs.laws.nothing_is_held_back.Goals as goal

pub returns : goal.returns
returns c = nothing_held
