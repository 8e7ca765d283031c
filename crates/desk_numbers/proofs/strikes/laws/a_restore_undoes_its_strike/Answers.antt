use Rattle.desk_numbers.proofs.StrikesLemmas.StruckLemmas.{undone}
use Rattle.desk_numbers.proofs.strikes.laws.a_restore_undoes_its_strike.Goals as goal

pub returns : goal.returns
returns c = undone
