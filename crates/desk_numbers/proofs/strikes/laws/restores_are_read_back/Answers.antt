use Rattle.desk_numbers.proofs.StrikesLemmas.StrikeLemmas.{restores_back}
use Rattle.desk_numbers.proofs.strikes.laws.restores_are_read_back.Goals as goal

pub returns : goal.returns
returns c = restores_back
