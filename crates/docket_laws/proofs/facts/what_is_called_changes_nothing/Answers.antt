use Rattle.docket_laws.proofs.EndedLemmas.{called_leaves}
use Rattle.docket_laws.proofs.facts.what_is_called_changes_nothing.Goals as goal

pub returns : goal.returns
returns c = called_leaves
