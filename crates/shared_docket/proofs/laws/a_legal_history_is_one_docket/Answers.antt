use Rattle.shared_docket.proofs.AlwaysLemmas.{one_docket}
use Rattle.shared_docket.proofs.laws.a_legal_history_is_one_docket.Goals as goal

pub returns : goal.returns
returns c = one_docket
