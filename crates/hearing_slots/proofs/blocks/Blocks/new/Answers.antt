use Rattle.hearing_slots.proofs.BlockLemmas.{no_blocks}
use Rattle.hearing_slots.proofs.DayNoteLemmas.{no_days}
use Rattle.hearing_slots.proofs.blocks.Blocks.new.Goals as goal

pub invariant_of-result : goal.invariant_of-result
invariant_of-result c =
    rw (c.new-2.ensures.items, c.in_ok-notes.ensures) (no_blocks.0, no_blocks.1, no_days)
