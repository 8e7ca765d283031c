use Rattle.desk_numbers.proofs.SaidLemmas.{said_is_kept}
use Rattle.desk_numbers.proofs.laws.what_is_said_is_kept.Goals as goal

pub returns : goal.returns
returns c = said_is_kept
