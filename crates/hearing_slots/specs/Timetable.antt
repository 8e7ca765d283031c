-- What is kept of a calendar, and how much room there is.
use Rattle.std.specs.Prelude.{ℕ, Option, Some, None, List, []}
use Rattle.hearing_slots.specs.declared.booking.Booking.{Booking}

-- the bookings, and how many more can be put in with no more memory
pub record TimetableView : Type 0 where
  pub bookings : List Booking
  pub room : ℕ

-- the bookings that are kept; there are none where nothing is
abbrev pub kept_in : Option TimetableView → List Booking
kept_in None = []
kept_in (Some timetable) = timetable.bookings
