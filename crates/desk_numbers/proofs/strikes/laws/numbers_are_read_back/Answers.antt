use Rattle.desk_numbers.proofs.StrikesLemmas.SaidTextLemmas.{numbers_back}
use Rattle.desk_numbers.proofs.strikes.laws.numbers_are_read_back.Goals as goal

pub returns : goal.returns
returns c = numbers_back
