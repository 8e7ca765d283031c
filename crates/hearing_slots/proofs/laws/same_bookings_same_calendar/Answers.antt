use Rattle.hearing_slots.proofs.SameBookings.{same_bookings}
use Rattle.hearing_slots.proofs.laws.same_bookings_same_calendar.Goals as goal

pub returns : goal.returns
returns c = same_bookings
