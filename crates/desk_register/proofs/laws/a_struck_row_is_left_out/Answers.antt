use Rattle.desk_register.proofs.DecidedLemmas.{left_out}
use Rattle.desk_register.proofs.laws.a_struck_row_is_left_out.Goals as goal

pub returns : goal.returns
returns c = left_out
