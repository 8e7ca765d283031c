-- A booking, and the slots of a day that it takes. A day has 96 slots of 15 minutes; slot s begins at minute 15·s.
use Rattle.std.specs.Prelude.{◌≡◌, ℕ, ◌+◌, ◌<◌, ◌≤◌, ℤ, int_lt, Bool, false, ◌&&◌, ◌||◌, ◌==◌, nat_lt, Option, Some, None}
use Rattle.std.specs.Ordering.{int_eq}
use Rattle.hearing_slots.specs.declared.booking.Booking.{Booking}

-- how many slots a day has; they are numbered from 0
abbrev pub slots_per_day : ℕ
slots_per_day = 96

-- how many minutes a slot has: slot s begins at minute 15·s of the day
abbrev pub minutes_per_slot : ℕ
minutes_per_slot = 15

-- the booking takes at least one slot, and none past the last of its day
pub record IsWithinDay (b : Booking) : Type 0 where
  pub some_slot : 1 ≤ b.count
  pub ends : b.first + b.count ≤ 96

-- the slot is one of the span of `count` slots from the first on
abbrev pub LiesIn : (first count slot : ℕ) → Type 0
LiesIn first count slot = (first ≤ slot) × (slot < first + count)

-- the booking and the span of `count` slots from the first on share a slot of the day
pub record SharesSlot (b : Booking) (day : ℤ) (first count : ℕ) : Type 0 where
  pub same_day : b.day ≡ day
  pub slot : ℕ
  pub in_booking : LiesIn b.first b.count slot
  pub in_span : LiesIn first count slot

-- the same as a test: each of the two begins before the other ends
abbrev pub shares_slot : Booking → ℤ → (first count : ℕ) → Bool
shares_slot b day first count = int_eq b.day day && (nat_lt b.first (first + count) && nat_lt first (b.first + b.count))

-- the booking is that of the case and the motion
abbrev pub is_of : (case motion : ℕ) → Booking → Bool
is_of case motion b = b.case == case && b.motion == motion

-- the booking is that of the excepted case and motion
abbrev pub is_excepted : Option (ℕ × ℕ) → Booking → Bool
is_excepted None b = false
is_excepted (Some except) b = is_of except.0 except.1 b

-- the booking lies on the day
abbrev pub is_on : ℤ → Booking → Bool
is_on day b = int_eq b.day day

-- a begins before b: on an earlier day, or at an earlier slot of the same day
abbrev pub begins_before : (a b : Booking) → Bool
begins_before a b = int_lt a.day b.day || (int_eq a.day b.day && nat_lt a.first b.first)
