use Rattle.std.proofs.Common.{length}
use Rattle.docket_decisions.proofs.next.+is_read.Given as goal

abbrev pub decreases-is_read : goal.decreases-is_read
decreases-is_read l = length l.reads.now
