use Rattle.std.proofs.Common.{length}
use Rattle.docket_decisions.proofs.reads.+value_read.Given as goal

abbrev pub decreases-value_read : goal.decreases-value_read
decreases-value_read l = length l.reads.now
