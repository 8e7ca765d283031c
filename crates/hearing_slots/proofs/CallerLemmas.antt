-- The lemmas for the crates above.
pub use Rattle.hearing_slots.proofs.Filters.{filter_all, filter_none, filter-filter, filter_comm, filter_kept, find-filter}
pub use Rattle.hearing_slots.proofs.Finds.{find_absent, find_here, find_other, IsFirst, find-Some, find-None}
pub use Rattle.hearing_slots.proofs.Order.{SharesSlot-from_test, test_from_SharesSlot, SharesSlot-sym}
pub use Rattle.hearing_slots.proofs.CalendarLemmas.{IsCalendar-filter}
pub use Rattle.hearing_slots.proofs.Holdings.{to_filter, from_filter, without_motion-holds, with_booking-holds, booking_keeps, removal_keeps}
pub use Rattle.hearing_slots.proofs.SameBookings.{same_bookings}
pub use Rattle.hearing_slots.proofs.InOrderLemmas.{filter-in_order, in_order-push, without_motion-in_order, with_booking-in_order, with_booking-push, All-in_order, All-from_in_order, in_order-holds}
