use Rattle.std.proofs.Common.{length}
use Rattle.docket_decisions.proofs.hearings.panel.+has_judges.Given as goal

abbrev pub decreases-has_judges : goal.decreases-has_judges
decreases-has_judges l = length l.panel.now
