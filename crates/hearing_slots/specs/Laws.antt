-- What the tests and the lists of this crate come to.
use Rattle.std.specs.Prelude.{◌≡◌, ◌↔◌, ℕ, ◌≤◌, ℤ, Bool, true, Some, List, [], ◌∷◌, ◌++◌, Contains, filter}
use Rattle.hearing_slots.specs.declared.booking.Booking.{Booking}
use Rattle.hearing_slots.specs.Booking.{IsWithinDay, SharesSlot, shares_slot}
use Rattle.hearing_slots.specs.Calendar.{IsCalendar, IsFree, in_order, without_motion, with_booking}

-- two spans of at least one slot each overlap exactly where some slot lies in both
abbrev pub OverlapIsASharedSlot : Type 0
OverlapIsASharedSlot = (b : Booking) (day : ℤ) (first count : ℕ) → 1 ≤ b.count → 1 ≤ count → (shares_slot b day first count ≡ true) ↔ SharesSlot b day first count

-- a calendar stays one when a booking is put in that conflicts with no other
abbrev pub BookingKeepsCalendar : Type 0
BookingKeepsCalendar = (b : Booking) (bookings : List Booking) → IsCalendar bookings → IsWithinDay b → IsFree bookings b.day b.first b.count (Some (b.case, b.motion)) → IsCalendar (with_booking b bookings)

-- and when one is taken out
abbrev pub RemovalKeepsCalendar : Type 0
RemovalKeepsCalendar = (case motion : ℕ) (bookings : List Booking) → IsCalendar bookings → IsCalendar (without_motion case motion bookings)

-- a calendar is known by the bookings that it holds
abbrev pub SameBookingsSameCalendar : Type 0
SameBookingsSameCalendar = (xs ys : List Booking) → IsCalendar xs → IsCalendar ys → ((x : Booking) → Contains xs x ↔ Contains ys x) → xs ≡ ys

-- to put bookings in order loses none and adds none
abbrev pub OrderHoldsTheSame : Type 0
OrderHoldsTheSame = (bookings : List Booking) (x : Booking) → Contains (in_order bookings) x ↔ Contains bookings x

-- the bookings that pass a test have the same order as among all
abbrev pub PartsStandInOrder : Type 0
PartsStandInOrder = (p : Booking → Bool) (bookings : List Booking) → filter p (in_order bookings) ≡ in_order (filter p bookings)

-- a booking that replaces an older one of its motion is put in order after all others of the list
abbrev pub BookingIsPutLast : Type 0
BookingIsPutLast = (b : Booking) (bookings : List Booking) → with_booking b (in_order bookings) ≡ in_order (without_motion b.case b.motion bookings ++ b ∷ [])
