use Rattle.std.proofs.Common.{length}
use Rattle.reason_refusals.proofs.commands.entries.+motion_of.Given as goal

abbrev pub decreases-motion_of : goal.decreases-motion_of
decreases-motion_of l = length l.motions.now
