use Rattle.docket_selection.proofs.ChangesLemmas.RevisionLemmas.{revisions_rise}
use Rattle.docket_selection.proofs.changes.laws.revisions_rise_with_events.Goals as goal

pub returns : goal.returns
returns c = revisions_rise
