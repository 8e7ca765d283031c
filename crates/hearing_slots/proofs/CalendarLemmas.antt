-- Bookings stay in order, apart and each once when one is taken out or put in its place.
use Rattle.std.proofs.Common.{◌≡◌, ℕ, ◌<◌, ◌≤◌, Bool, true, false, List, length, get_or, arith, refl}
use Rattle.std.specs.List.{All, filter, insert}
use Rattle.std.specs.List.Sorted.{IsPartitionPoint}
use Rattle.std.proofs.lemmas.List.Elements.{All-filter}
use Rattle.std.proofs.lemmas.List.Kept.{AllPairs-filter}
use Rattle.hearing_slots.specs.declared.booking.Booking.{Booking}
use Rattle.hearing_slots.specs.Booking.{IsWithinDay, SharesSlot, is_of, begins_before}
use Rattle.hearing_slots.specs.Calendar.{IsCalendar, in_place}
use Rattle.hearing_slots.proofs.Filters.{filter_front, filter_back}
use Rattle.hearing_slots.proofs.Inserts.{All-insert, AllPairs-insert}
use Rattle.hearing_slots.proofs.Order.{begins_before-other, SharesSlot-sym, is_of-sym}

-- the bookings that pass a test
pub IsCalendar-filter : (p : Booking → Bool) (bookings : List Booking) → IsCalendar bookings → IsCalendar (filter p bookings)
IsCalendar-filter p bookings h = record {
  within_day = All-filter p IsWithinDay bookings h.within_day;
  sorted = AllPairs-filter (λ a b. begins_before a b ≡ true) p bookings h.sorted;
  apart = AllPairs-filter (λ a b. SharesSlot a b.day b.first b.count → ⊥) p bookings h.apart;
  once = AllPairs-filter (λ a b. is_of a.case a.motion b ≡ false) p bookings h.once;
}

-- the bookings and one more, after those that begin before it
pub IsCalendar-insert : (bookings : List Booking) (i : ℕ) (b : Booking) → IsCalendar bookings → IsWithinDay b → All (λ a. SharesSlot a b.day b.first b.count → ⊥) bookings → All (λ a. is_of b.case b.motion a ≡ false) bookings → i ≤ length bookings → IsPartitionPoint (λ a. begins_before a b ≡ true) (λ a. begins_before a b ≡ false) bookings i → IsCalendar (insert bookings i b)
IsCalendar-insert bookings i b h within free only le point = record {
  within_day = All-insert IsWithinDay bookings i b h.within_day within;
  sorted = AllPairs-insert (λ x y. begins_before x y ≡ true) bookings i b le h.sorted
      point.0
      (λ k d low high. begins_before-other (get_or bookings k d) b (h.within_day k d high) within (point.1 k d low high) (free k d high));
  apart = AllPairs-insert (λ x y. SharesSlot x y.day y.first y.count → ⊥) bookings i b le h.apart
      (λ k d low high. let before : k < length bookings = omega arith in free k d before)
      (λ k d low high shared. free k d high (SharesSlot-sym b (get_or bookings k d) shared));
  once = AllPairs-insert (λ x y. is_of x.case x.motion y ≡ false) bookings i b le h.once
      (λ k d low high. let before : k < length bookings = omega arith in is_of-sym (get_or bookings k d) b (only k d before))
      (λ k d low high. only k d high);
}

-- a booking's place is after those that begin before it
pub in_place-at : (b : Booking) (bookings : List Booking) (i : ℕ) → i ≤ length bookings → IsPartitionPoint (λ a. begins_before a b ≡ true) (λ a. begins_before a b ≡ false) bookings i → in_place b bookings ≡ insert bookings i b
in_place-at b bookings i le point =
    rw (filter_front (λ a. begins_before a b) bookings i le point, filter_back (λ a. begins_before a b) bookings i le point) refl
