use Rattle.std.proofs.Common.{length}
use Rattle.docket_decisions.proofs.next.+unread_judge.Given as goal

abbrev pub decreases-unread_judge : goal.decreases-unread_judge
decreases-unread_judge l = length l.judges.now
