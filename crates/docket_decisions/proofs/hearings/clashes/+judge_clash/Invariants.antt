use Rattle.std.proofs.Common.{length}
use Rattle.docket_decisions.proofs.hearings.clashes.+judge_clash.Given as goal

abbrev pub decreases-judge_clash : goal.decreases-judge_clash
decreases-judge_clash g l = length l.judges.now
