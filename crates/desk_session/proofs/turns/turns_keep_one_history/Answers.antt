use Rattle.desk_session.proofs.TurnLemmas.{one_history}
use Rattle.desk_session.proofs.turns.turns_keep_one_history.Goals as goal

pub returns : goal.returns
returns c = one_history
