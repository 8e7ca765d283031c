use Rattle.std.proofs.Common.{length}
use Rattle.docket_decisions.proofs.hearings.panel.+sits.Given as goal

abbrev pub decreases-sits : goal.decreases-sits
decreases-sits l = length l.panel.now
