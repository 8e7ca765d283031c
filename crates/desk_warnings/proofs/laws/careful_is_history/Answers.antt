use Rattle.desk_warnings.proofs.CarefulLemmas.{careful_history}
use Rattle.desk_warnings.proofs.laws.careful_is_history.Goals as goal

pub returns : goal.returns
returns c = careful_history
