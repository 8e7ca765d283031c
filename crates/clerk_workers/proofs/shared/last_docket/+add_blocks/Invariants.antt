use Rattle.std.proofs.Common.{length}
use Rattle.clerk_workers.proofs.shared.last_docket.+add_blocks.Given as goal

-- fewer blocks are left
abbrev pub decreases-add_blocks : goal.decreases-add_blocks
decreases-add_blocks l = length l.blocks.now
