use Rattle.std.proofs.Common.{◌≡◌, take}
use Rattle.hearing_slots.proofs.block_list.copies.Given as goal

-- the blocks so far
abbrev pub invariant-loop-block : goal.invariant-loop-block
invariant-loop-block l = l.copies.items ≡ take l.block-index l.blocks
