-- The slots of a day that are taken, as the bits of a number: bit s stands for slot s.
use Rattle.std.specs.Prelude.{◌≡◌, ℕ, ◌+◌, ◌-◌, ◌^◌, ◌<◌, ℤ, ◌<ℤ◌, Bool, Option, Some, None, List, bit_or, All, AllPairs, find, fold}
use Rattle.std.specs.Ordering.{int_eq}
use Rattle.hearing_slots.specs.declared.booking.Booking.{Booking}
use Rattle.hearing_slots.specs.declared.day_slots.DaySlots.{DaySlots}
use Rattle.hearing_slots.specs.Calendar.{on_day}
use Rattle.hearing_slots.specs.Inside.Places.{IsAt, IsGapAt}

-- `count` slots from the first on
abbrev pub slots_from : (first count : ℕ) → ℕ
slots_from first count = 2 ^ (first + count) - 2 ^ first

-- the slots of a mask and those of the booking
abbrev pub add_slots : ℕ → Booking → ℕ
add_slots taken b = bit_or taken (slots_from b.first b.count)

-- the slots that the bookings take
abbrev pub slots_taken : List Booking → ℕ
slots_taken bookings = fold add_slots 0 bookings

-- the entry is that of the day
abbrev pub has_day : ℤ → DaySlots → Bool
has_day day entry = int_eq entry.day day

-- the slots of an entry; without one none is taken
abbrev pub taken_in : Option DaySlots → ℕ
taken_in None = 0
taken_in (Some entry) = entry.taken

-- the slots that are marked as taken on the day
abbrev pub marked : ℤ → List DaySlots → ℕ
marked day days = taken_in (find (has_day day) days)

-- the entries are by day, each day once, and each has a slot that is taken
pub record AreMasks (days : List DaySlots) : Type 0 where
  pub rising : AllPairs (λ x y. x.day <ℤ y.day) days
  pub some : All (λ x. 0 < x.taken) days

-- on each day just the slots of its bookings are marked
pub record MarksBookings (bookings : List Booking) (days : List DaySlots) : Type 0 where
  pub masks : AreMasks days
  pub exact : (day : ℤ) → marked day days ≡ slots_taken (on_day day bookings)

-- new has these slots on the day, and on every other day those of old
pub record MarksOnly (old new : List DaySlots) (day : ℤ) (taken : ℕ) : Type 0 where
  pub masks : AreMasks new
  pub this_day : marked day new ≡ taken
  pub other_days : (q : ℤ) → (q ≡ day → ⊥) → marked q new ≡ marked q old

-- the day's entry is at this place
abbrev pub IsDayAt : (days : List DaySlots) (day : ℤ) (place : ℕ) → Type 0
IsDayAt days day place = IsAt (λ (x : DaySlots). x.day) days day place

-- the day has no entry, which would go to the place
abbrev pub IsGapForDay : (days : List DaySlots) (day : ℤ) (place : ℕ) → Type 0
IsGapForDay days day place = IsGapAt (λ (x : DaySlots). x.day) days day place
