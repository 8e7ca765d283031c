use Rattle.std.proofs.Common.{length}
use Rattle.docket_decisions.proofs.facts.+first_ahead.Given as goal

abbrev pub decreases-first_ahead : goal.decreases-first_ahead
decreases-first_ahead l = length l.motions.now
