use Rattle.std.proofs.Common.{◌≡◌, take}
use Rattle.hearing_slots.proofs.blocks.Blocks.of.Given as goal

-- the bookings so far
abbrev pub invariant-loop-booking : goal.invariant-loop-booking
invariant-loop-booking l = l.blocks ≡ take l.booking-index l.bookings
