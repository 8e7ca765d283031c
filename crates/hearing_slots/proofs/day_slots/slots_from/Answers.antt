use Rattle.std.proofs.Common.{arith}
use Rattle.hearing_slots.proofs.SlotBits.{one_bit, pow_grows}
use Rattle.hearing_slots.proofs.day_slots.slots_from.Goals as goal

pub overflow_sub-result : goal.overflow_sub-result
overflow_sub-result c =
    rw (one_bit c.args.first (omega (arith, c.requires)), one_bit _ c.requires) (pow_grows c.args.first c.args.count)
