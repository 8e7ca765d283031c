use Rattle.std.proofs.Common.{◌≡◌, take}
use Rattle.hearing_slots.specs.Slots.{slots_taken}
use Rattle.hearing_slots.proofs.ordered.slots_of.Given as goal

-- the slots of the bookings so far
abbrev pub invariant-loop-booking : goal.invariant-loop-booking
invariant-loop-booking l = l.taken ≡ slots_taken (take l.booking-index l.bookings)
