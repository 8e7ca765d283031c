-- The bookings of a calendar that is seen.
use Rattle.std.specs.Prelude.{List, []}
use Rattle.hearing_slots.specs.declared.booking.Booking.{Booking}
use Rattle.hearing_slots.specs.declared.calendar_ref.CalendarRef.{CalendarRef}
use Rattle.hearing_slots.specs.declared.calendar_ref.CalendarRef.TheVariants.{Absent, InPlace, Shared}

-- the bookings in order; there are none where there is no calendar
abbrev pub bookings_seen : CalendarRef → List Booking
bookings_seen Absent = []
bookings_seen (InPlace calendar) = calendar.now
bookings_seen (Shared calendar) = calendar.now
