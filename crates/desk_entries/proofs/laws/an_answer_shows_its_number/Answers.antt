use Rattle.desk_entries.proofs.PlaceLemmas.{shows_its_number}
use Rattle.desk_entries.proofs.laws.an_answer_shows_its_number.Goals as goal

pub returns : goal.returns
returns c = shows_its_number
