-- The order of bookings in time.
use Rattle.std.proofs.Common.{◌≡◌, ℕ, ◌+◌, ◌<◌, ◌≤◌, ℤ, int_lt, int_le, true, false, not, ◌&&◌, sym, arith, inl, inr, max, Option}
use Rattle.std.proofs.lemmas.Int.{ints}
use Rattle.std.proofs.lemmas.Bool.{cases_Bool, and_parts}
use Rattle.hearing_slots.specs.declared.booking.Booking.{Booking}
use Rattle.hearing_slots.specs.Booking.{IsWithinDay, SharesSlot, LiesIn, is_of, is_on, begins_before, shares_slot}
use Rattle.hearing_slots.specs.Calendar.{conflicts}

-- what begins before a booking of an earlier day lies on an earlier day too
pub begins_before-earlier : (day : ℤ) (a b : Booking) → begins_before a b ≡ true → int_lt b.day day ≡ true → int_lt a.day day ≡ true
begins_before-earlier day a b h e = grind (arith, ints)

-- what begins before a booking of a day or of an earlier one does not lie on a later day
pub begins_before-not_later : (day : ℤ) (a b : Booking) → begins_before a b ≡ true → int_le b.day day ≡ true → int_le a.day day ≡ true
begins_before-not_later day a b h e = grind (arith, ints)

-- what lies on no earlier and on no later day lies on the day
pub is_on-from_bounds : (day : ℤ) (b : Booking) → (not (int_lt b.day day) && int_le b.day day) ≡ is_on day b
is_on-from_bounds day b = grind (arith, ints)

-- what begins before a booking begins before all that this one begins before
pub begins_before-trans : (a b d : Booking) → begins_before a b ≡ true → begins_before b d ≡ true → begins_before a d ≡ true
begins_before-trans a b d h k = grind (arith, ints)

-- of two bookings that share no slot, one begins before the other
pub begins_before-other : (a b : Booking) → IsWithinDay a → IsWithinDay b → begins_before a b ≡ false → (SharesSlot a b.day b.first b.count → ⊥) → begins_before b a ≡ true
begins_before-other a b within_a within_b not_before apart = elim (cases_Bool (begins_before b a)) [
  | inl before ↦ before
  | inr neither ↦
      let same_day : a.day ≡ b.day = grind (arith, ints) in
      let same_first : a.first ≡ b.first = grind (arith, ints) in
      let in_a : LiesIn a.first a.count a.first = (omega arith, omega (arith, within_a.some_slot)) in
      let in_b : LiesIn b.first b.count a.first = (omega arith, omega (arith, within_b.some_slot)) in
      absurd (apart record { same_day = same_day; slot = a.first; in_booking = in_a; in_span = in_b })
]

-- two bookings share a slot, whichever is named first
pub SharesSlot-sym : (a b : Booking) → SharesSlot a b.day b.first b.count → SharesSlot b a.day a.first a.count
SharesSlot-sym a b h = record { same_day = sym h.same_day; slot = h.slot; in_booking = h.in_span; in_span = h.in_booking }

-- and have different cases or motions, whichever is named first
pub is_of-sym : (a b : Booking) → is_of b.case b.motion a ≡ false → is_of a.case a.motion b ≡ false
is_of-sym a b h = grind arith

-- the test says whether a slot is shared
pub SharesSlot-from_test : (b : Booking) (day : ℤ) (first count : ℕ) → 1 ≤ b.count → 1 ≤ count → shares_slot b day first count ≡ true → SharesSlot b day first count
SharesSlot-from_test b day first count some_b some h =
    let later = max b.first first in
    let before : b.first < first + count = grind (arith, ints) in
    let after : first < b.first + b.count = grind (arith, ints) in
    record {
      same_day = grind (arith, ints);
      slot = later;
      in_booking = (omega arith, omega arith);
      in_span = (omega arith, omega arith);
    }

pub test_from_SharesSlot : (b : Booking) (day : ℤ) (first count : ℕ) → SharesSlot b day first count → shares_slot b day first count ≡ true
test_from_SharesSlot b day first count h = grind (arith, ints, h.same_day, h.in_booking.0, h.in_booking.1, h.in_span.0, h.in_span.1)

-- what conflicts with a span of slots lies on its day
pub conflicts-on_day : (day : ℤ) (first count : ℕ) (except : Option (ℕ × ℕ)) (b : Booking) → conflicts day first count except b ≡ true → is_on day b ≡ true
conflicts-on_day day first count except b h = (and_parts _ _ (and_parts _ _ h).0).0
