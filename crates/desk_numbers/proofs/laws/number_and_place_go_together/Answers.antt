use Rattle.desk_numbers.proofs.PlaceLemmas.{go_together}
use Rattle.desk_numbers.proofs.laws.number_and_place_go_together.Goals as goal

pub returns : goal.returns
returns c = go_together
