use Rattle.desk_numbers.proofs.StrikesLemmas.StrikeLemmas.{strikes_back}
use Rattle.desk_numbers.proofs.strikes.laws.strikes_are_read_back.Goals as goal

pub returns : goal.returns
returns c = strikes_back
