-- The slots of spans and of bookings as bits.
use Rattle.std.proofs.Common.{◌≡◌, ℕ, ◌+◌, ◌*◌, ◌^◌, ◌%◌, ◌<◌, ◌≤◌, min, max, bit_and, bit_or, List, [], ◌∷◌, refl, ap, ◌∙◌, subst, arith, inl, inr, length, get_or}
use Rattle.std.specs.Int.{bit_at}
use Rattle.std.specs.List.{All, fold}
use Rattle.std.proofs.Math.Pow.{pow_mono, pow-lt}
use Rattle.std.proofs.lemmas.Nat.Bits.{bit_at-zero, bit_at_and, bit_at_or, same_from_bits, bit_at_mask_inside}
use Rattle.std.proofs.lemmas.Bool.{cases_eq}
use Rattle.std.proofs.lemmas.List.Elements.{All-cons, All-head, All-tail}
use Rattle.hearing_slots.specs.declared.booking.Booking.{Booking}
use Rattle.hearing_slots.specs.Slots.{slots_from, add_slots, slots_taken}

-- `1 << n` in 128 bits
pub one_bit : (n : ℕ) → n ≤ 96 → 1 * 2 ^ n % 340282366920938463463374607431768211456 ≡ 2 ^ n
one_bit n h =
    let below : 2 ^ n < 2 ^ 128 = pow-lt {i = n} {j = 128} (omega arith) in
    let small : 2 ^ n < 340282366920938463463374607431768211456 = below in
    omega (arith, small)

pub pow_grows : (first count : ℕ) → 2 ^ first ≤ 2 ^ (first + count)
pow_grows first count = pow_mono {i = first} {j = first + count} (omega arith)

-- numbers with no bit in common have none in common with a part of one of them
apart_left : (a b mask : ℕ) → bit_and (bit_or a b) mask ≡ 0 → bit_and a mask ≡ 0
apart_left a b mask h = same_from_bits (bit_and a mask) 0 (λ i.
    let whole : bit_at (bit_and (bit_or a b) mask) i ≡ 0 = ap (λ (n : ℕ). bit_at n i) h ∙ bit_at-zero i in
    let parts : bit_at (bit_and (bit_or a b) mask) i ≡ min (bit_at (bit_or a b) i) (bit_at mask i) = bit_at_and (bit_or a b) mask i in
    let either : bit_at (bit_or a b) i ≡ max (bit_at a i) (bit_at b i) = bit_at_or a b i in
    let one : bit_at (bit_and a mask) i ≡ min (bit_at a i) (bit_at mask i) = bit_at_and a mask i in
    let none : bit_at 0 i ≡ 0 = bit_at-zero i in
    omega (arith, whole, parts, either, one, none))

apart_right : (a b mask : ℕ) → bit_and (bit_or a b) mask ≡ 0 → bit_and b mask ≡ 0
apart_right a b mask h = same_from_bits (bit_and b mask) 0 (λ i.
    let whole : bit_at (bit_and (bit_or a b) mask) i ≡ 0 = ap (λ (n : ℕ). bit_at n i) h ∙ bit_at-zero i in
    let parts : bit_at (bit_and (bit_or a b) mask) i ≡ min (bit_at (bit_or a b) i) (bit_at mask i) = bit_at_and (bit_or a b) mask i in
    let either : bit_at (bit_or a b) i ≡ max (bit_at a i) (bit_at b i) = bit_at_or a b i in
    let one : bit_at (bit_and b mask) i ≡ min (bit_at b i) (bit_at mask i) = bit_at_and b mask i in
    let none : bit_at 0 i ≡ 0 = bit_at-zero i in
    omega (arith, whole, parts, either, one, none))

-- a mask that has no slot in common with the bookings has none in common with each of them
apart_each : (mask taken : ℕ) (bookings : List Booking) → bit_and (fold add_slots taken bookings) mask ≡ 0 → (bit_and taken mask ≡ 0) × All (λ b. bit_and (slots_from b.first b.count) mask ≡ 0) bookings
apart_each mask taken [] h = (h, λ k d within. absurd (omega arith))
apart_each mask taken (b ∷ bs) h =
    let rest = apart_each mask (add_slots taken b) bs h in (
      apart_left taken (slots_from b.first b.count) mask rest.0,
      All-cons (λ a. bit_and (slots_from a.first a.count) mask ≡ 0) b bs (apart_right taken (slots_from b.first b.count) mask rest.0) rest.1,
    )

pub slots_apart : (mask : ℕ) (bookings : List Booking) → bit_and (slots_taken bookings) mask ≡ 0 → All (λ b. bit_and (slots_from b.first b.count) mask ≡ 0) bookings
slots_apart mask bookings h = (apart_each mask 0 bookings h).1

-- two spans that have a slot in common have a bit in common
pub spans_meet : (first count other_first other_count slot : ℕ) → first ≤ slot → slot < first + count → other_first ≤ slot → slot < other_first + other_count → bit_and (slots_from first count) (slots_from other_first other_count) ≡ 0 → ⊥
spans_meet first count other_first other_count slot low high other_low other_high h =
    let one : bit_at (slots_from first count) slot ≡ 1 = bit_at_mask_inside first (first + count) slot low high in
    let other : bit_at (slots_from other_first other_count) slot ≡ 1 = bit_at_mask_inside other_first (other_first + other_count) slot other_low other_high in
    let both : bit_at (bit_and (slots_from first count) (slots_from other_first other_count)) slot ≡ min (bit_at (slots_from first count) slot) (bit_at (slots_from other_first other_count) slot) = bit_at_and (slots_from first count) (slots_from other_first other_count) slot in
    let none : bit_at (bit_and (slots_from first count) (slots_from other_first other_count)) slot ≡ 0 = ap (λ (n : ℕ). bit_at n slot) h ∙ bit_at-zero slot in
    absurd (omega (arith, one, other, both, none))

-- a span of slots is not empty
pub some_slots : (first count : ℕ) → 1 ≤ count → 0 < slots_from first count
some_slots first count some =
    let more : 2 ^ first < 2 ^ (first + count) = pow-lt {i = first} {j = first + count} (omega arith) in
    omega (arith, more)

-- where no slot is taken, each booking takes none
or_zero_left : (a b : ℕ) → bit_or a b ≡ 0 → a ≡ 0
or_zero_left a b h = same_from_bits a 0 (λ i.
    let whole : bit_at (bit_or a b) i ≡ 0 = ap (λ (n : ℕ). bit_at n i) h ∙ bit_at-zero i in
    let either : bit_at (bit_or a b) i ≡ max (bit_at a i) (bit_at b i) = bit_at_or a b i in
    let none : bit_at 0 i ≡ 0 = bit_at-zero i in
    omega (arith, whole, either, none))

or_zero_right : (a b : ℕ) → bit_or a b ≡ 0 → b ≡ 0
or_zero_right a b h = same_from_bits b 0 (λ i.
    let whole : bit_at (bit_or a b) i ≡ 0 = ap (λ (n : ℕ). bit_at n i) h ∙ bit_at-zero i in
    let either : bit_at (bit_or a b) i ≡ max (bit_at a i) (bit_at b i) = bit_at_or a b i in
    let none : bit_at 0 i ≡ 0 = bit_at-zero i in
    omega (arith, whole, either, none))

none_each : (taken : ℕ) (bookings : List Booking) → fold add_slots taken bookings ≡ 0 → (taken ≡ 0) × All (λ b. slots_from b.first b.count ≡ 0) bookings
none_each taken [] h = (h, λ k d within. absurd (omega arith))
none_each taken (b ∷ bs) h =
    let rest = none_each (add_slots taken b) bs h in (
      or_zero_left taken (slots_from b.first b.count) rest.0,
      All-cons (λ a. slots_from a.first a.count ≡ 0) b bs (or_zero_right taken (slots_from b.first b.count) rest.0) rest.1,
    )

pub slots_none : (bookings : List Booking) → slots_taken bookings ≡ 0 → All (λ b. slots_from b.first b.count ≡ 0) bookings
slots_none bookings h = (none_each 0 bookings h).1

-- and the other way round
pub none_from_each : (bookings : List Booking) → All (λ b. slots_from b.first b.count ≡ 0) bookings → slots_taken bookings ≡ 0
none_from_each [] each = refl
none_from_each (b ∷ bs) each =
    rw (All-head (λ a. slots_from a.first a.count ≡ 0) b bs each) (none_from_each bs (All-tail (λ a. slots_from a.first a.count ≡ 0) b bs each))

-- bookings that hold one booking of some slots take some slots
pub some_taken : (bookings : List Booking) (k : ℕ) (b : Booking) → k < length bookings → get_or bookings k b ≡ b → 1 ≤ b.count → 0 < slots_taken bookings
some_taken bookings k b within stands some = elim (cases_eq (slots_taken bookings) 0) [
  | inl none ↦
      let empty : slots_from (get_or bookings k b).first (get_or bookings k b).count ≡ 0 = (none_each 0 bookings none).1 k b within in
      let here : slots_from b.first b.count ≡ 0 = subst (λ (a : Booking). slots_from a.first a.count ≡ 0) stands empty in
      let more : 0 < slots_from b.first b.count = some_slots b.first b.count some in
      absurd (omega (arith, here, more))
  | inr more ↦ omega (arith, more)
]
