-- The bookings that a calendar holds.
use Rattle.std.specs.Prelude.{List, []}
use Rattle.hearing_slots.specs.declared.booking.Booking.{Booking}
use Rattle.hearing_slots.specs.declared.calendar.Holder.TheVariants.{Empty, Own}
use Rattle.hearing_slots.specs.declared.calendar.Calendar.TheInside.{Inside}

-- the bookings in order; there are none where nothing is held
abbrev pub bookings_of : Inside → List Booking
bookings_of c = elim c.held [ Empty ↦ [] | Own boxed ↦ boxed.value.bookings ]
