-- The bookings of a calendar whose copies share them.
use Rattle.std.specs.Prelude.{List, []}
use Rattle.std.specs.Arc.{arc_value}
use Rattle.hearing_slots.specs.declared.booking.Booking.{Booking}
use Rattle.hearing_slots.specs.declared.shared_calendar.Held.TheVariants.{Nothing, Few, Many}
use Rattle.hearing_slots.specs.declared.shared_calendar.SharedCalendar.TheInside.{Inside}

-- the bookings in order; there are none where nothing is held
abbrev pub shared_bookings : Inside → List Booking
shared_bookings c = elim c.held [ Nothing ↦ [] | Few agenda ↦ arc_value agenda | Many blocks ↦ arc_value blocks ]
