use Rattle.std.proofs.Common.{◌+◌, ◌≤◌, length, take}
use Rattle.std.specs.HashMap.{spare}
use Rattle.hearing_slots.specs.Motions.{NotesBookings}
use Rattle.hearing_slots.proofs.motions.noted_motions.Given as goal

-- the bookings so far are noted, and there is room for the others
abbrev pub invariant-loop-booking : goal.invariant-loop-booking
invariant-loop-booking l = record { notes : NotesBookings (take l.booking-index l.bookings) l.motions; room : length l.bookings ≤ l.booking-index + spare l.motions }
