use Rattle.desk_register.proofs.HistoryLemmas.{left_history}
use Rattle.desk_register.proofs.laws.what_is_left_is_history.Goals as goal

pub returns : goal.returns
returns c = left_history
