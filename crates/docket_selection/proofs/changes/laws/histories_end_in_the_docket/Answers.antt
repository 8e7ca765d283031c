use Rattle.docket_selection.proofs.ChangesLemmas.DocketLemmas.{histories_end}
use Rattle.docket_selection.proofs.changes.laws.histories_end_in_the_docket.Goals as goal

pub returns : goal.returns
returns c = histories_end
