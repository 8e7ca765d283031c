use Rattle.hearing_slots.proofs.Holdings.{overlap_is_shared}
use Rattle.hearing_slots.proofs.laws.overlap_is_a_shared_slot.Goals as goal

pub returns : goal.returns
returns c = overlap_is_shared
