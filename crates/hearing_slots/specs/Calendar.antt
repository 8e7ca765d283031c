-- The bookings of one judge or one room: by day, and on a day by first slot.
use Rattle.std.specs.Prelude.{◌≡◌, ℕ, ◌≤◌, ℤ, Bool, true, false, ◌&&◌, not, Option, List, [], ◌∷◌, ◌++◌, All, AllPairs, Contains, filter, find, fold, ◌↔◌, ◌⊎◌}
use Rattle.hearing_slots.specs.declared.booking.Booking.{Booking}
use Rattle.hearing_slots.specs.Booking.{IsWithinDay, SharesSlot, shares_slot, is_of, is_excepted, is_on, begins_before}

-- the bookings are in order, no two of them share a slot of a day, and each case and motion has one at most
pub record IsCalendar (bookings : List Booking) : Type 0 where
  pub within_day : All IsWithinDay bookings
  pub sorted : AllPairs (λ a b. begins_before a b ≡ true) bookings
  pub apart : AllPairs (λ a b. SharesSlot a b.day b.first b.count → ⊥) bookings
  pub once : AllPairs (λ a b. is_of a.case a.motion b ≡ false) bookings

-- the bookings of the day, by first slot
abbrev pub on_day : ℤ → List Booking → List Booking
on_day day bookings = filter (is_on day) bookings

-- the bookings of other cases and motions
abbrev pub without_motion : (case motion : ℕ) → List Booking → List Booking
without_motion case motion bookings = filter (λ b. not (is_of case motion b)) bookings

-- the bookings with one more in its place: those that begin before it, it, and the others
abbrev pub in_place : Booking → List Booking → List Booking
in_place b bookings = filter (λ a. begins_before a b) bookings ++ b ∷ filter (λ a. not (begins_before a b)) bookings

-- the bookings of other cases and motions, and this one, in order
unfoldable pub with_booking : Booking → List Booking → List Booking
with_booking b bookings = in_place b (without_motion b.case b.motion bookings)

-- the bookings put in order, each in its place among those before it in the list
abbrev pub in_order : List Booking → List Booking
in_order bookings = fold (λ placed b. in_place b placed) [] bookings

-- new holds the booking and those of old that are of other cases and motions, and no more
abbrev pub HoldsWith : (b : Booking) (old new : List Booking) → Type 0
HoldsWith b old new = (x : Booking) → Contains new x ↔ ((x ≡ b) ⊎ (Contains old x × (is_of b.case b.motion x ≡ false)))

-- new holds the bookings of old that are of other cases and motions, and no more
abbrev pub HoldsWithout : (case motion : ℕ) (old new : List Booking) → Type 0
HoldsWithout case motion old new = (x : Booking) → Contains new x ↔ (Contains old x × (is_of case motion x ≡ false))

-- the part holds the bookings of the day, and no more
abbrev pub HoldsDay : (day : ℤ) (bookings part : List Booking) → Type 0
HoldsDay day bookings part = (x : Booking) → Contains part x ↔ (Contains bookings x × (x.day ≡ day))

-- the booking conflicts with a span of slots, as a test
abbrev pub conflicts : ℤ → (first count : ℕ) → Option (ℕ × ℕ) → Booking → Bool
conflicts day first count except b = shares_slot b day first count && not (is_excepted except b)

-- the first booking, in order, that conflicts with the span
unfoldable pub first_conflict : List Booking → ℤ → (first count : ℕ) → Option (ℕ × ℕ) → Option Booking
first_conflict bookings day first count except = find (conflicts day first count except) bookings

-- the booking is not the excepted one, and shares a slot of the day with the span
abbrev pub IsConflict : ℤ → (first count : ℕ) → Option (ℕ × ℕ) → Booking → Type 0
IsConflict day first count except b = (is_excepted except b ≡ false) × SharesSlot b day first count

-- r is, of the bookings that conflict with the span, the one with the least first slot
pub record IsLeastConflict (bookings : List Booking) (day : ℤ) (first count : ℕ) (except : Option (ℕ × ℕ)) (r : Booking) : Type 0 where
  pub stands : Contains bookings r
  pub conflict : IsConflict day first count except r
  pub least : All (λ b. IsConflict day first count except b → r.first ≤ b.first) bookings

-- no booking conflicts with the span
abbrev pub IsFree : List Booking → ℤ → (first count : ℕ) → Option (ℕ × ℕ) → Type 0
IsFree bookings day first count except = All (λ b. IsConflict day first count except b → ⊥) bookings
