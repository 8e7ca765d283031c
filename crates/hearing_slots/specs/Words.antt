-- The words of clauses and definitions, for the crates above, from one place.
pub use Rattle.hearing_slots.specs.Booking.{slots_per_day, minutes_per_slot, IsWithinDay, LiesIn, SharesSlot, shares_slot, is_of, is_excepted, is_on, begins_before}
pub use Rattle.hearing_slots.specs.Calendar.{IsCalendar, on_day, without_motion, in_place, in_order, HoldsWith, HoldsWithout, HoldsDay, conflicts, IsConflict, IsLeastConflict, IsFree}
unfoldable pub use Rattle.hearing_slots.specs.Calendar.{with_booking, first_conflict}
pub use Rattle.hearing_slots.specs.Laws.{OverlapIsASharedSlot, BookingKeepsCalendar, RemovalKeepsCalendar, SameBookingsSameCalendar, OrderHoldsTheSame, PartsStandInOrder, BookingIsPutLast}
pub use Rattle.hearing_slots.specs.Inside.Blocks.{BlockView, all_in}
pub use Rattle.hearing_slots.specs.CalendarRef.{bookings_seen}
pub use Rattle.hearing_slots.specs.Panel.{judges_of, IsPanel, placed, panel_of}
