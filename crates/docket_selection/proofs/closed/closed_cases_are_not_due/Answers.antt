use Rattle.docket_selection.proofs.ClosedLemmas.{closed_not_due}
use Rattle.docket_selection.proofs.closed.closed_cases_are_not_due.Goals as goal

pub returns : goal.returns
returns c = closed_not_due
