use Rattle.desk_numbers.proofs.PlaceLemmas.{tells_its_number}
use Rattle.desk_numbers.proofs.laws.a_place_apart_tells_its_number.Goals as goal

pub returns : goal.returns
returns c = tells_its_number
