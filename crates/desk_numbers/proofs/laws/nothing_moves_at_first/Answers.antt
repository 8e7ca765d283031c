use Rattle.desk_numbers.proofs.NumberLemmas.{nothing_moves}
use Rattle.desk_numbers.proofs.laws.nothing_moves_at_first.Goals as goal

pub returns : goal.returns
returns c = nothing_moves
