use Rattle.std.proofs.Common.{length}
use Rattle.docket_decisions.proofs.holidays.+least_in_blocks.Given as goal

abbrev pub decreases-least_in_blocks : goal.decreases-least_in_blocks
decreases-least_in_blocks l = length l.blocks.now
