use Rattle.desk_numbers.proofs.PlaceLemmas.{at_their_places}
use Rattle.desk_numbers.proofs.laws.others_are_at_their_places.Goals as goal

pub returns : goal.returns
returns c = at_their_places
