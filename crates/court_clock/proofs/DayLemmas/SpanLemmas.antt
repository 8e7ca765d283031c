-- The later and the earlier of two days, and how many days there are from one to another.
use Rattle.std.proofs.Common.{◌≡◌, ◌<◌, ℕ, suc, ℤ, pos, ◌+ℤ◌, ◌-ℤ◌, ◌≤ℤ◌, ◌<ℤ◌, int_le, arith, inl, inr}
use Rattle.std.proofs.lemmas.Int.{ints}
use Rattle.std.proofs.lemmas.Bool.{cases_Bool}
use Rattle.court_clock.specs.Day.Search.{days_through, later_day, earlier_day}

pub later_day-same : (a b : ℤ) → b ≤ℤ a → later_day a b ≡ a
later_day-same a b h = grind (arith, ints)

pub earlier_day-same : (a b : ℤ) → a ≤ℤ b → earlier_day a b ≡ a
earlier_day-same a b h = grind (arith, ints)

pub later_day-least : (a b e : ℤ) → a ≤ℤ e → b ≤ℤ e → later_day a b ≤ℤ e
later_day-least a b e h k = grind (arith, ints)

pub later_day-first : (a b e : ℤ) → later_day a b ≤ℤ e → a ≤ℤ e
later_day-first a b e h = grind (arith, ints)

pub later_day-second : (a b e : ℤ) → later_day a b ≤ℤ e → b ≤ℤ e
later_day-second a b e h = grind (arith, ints)

pub earlier_day-greatest : (a b e : ℤ) → e ≤ℤ a → e ≤ℤ b → e ≤ℤ earlier_day a b
earlier_day-greatest a b e h k = grind (arith, ints)

pub earlier_day-first : (a b e : ℤ) → e ≤ℤ earlier_day a b → e ≤ℤ a
earlier_day-first a b e h = grind (arith, ints)

pub earlier_day-second : (a b e : ℤ) → e ≤ℤ earlier_day a b → e ≤ℤ b
earlier_day-second a b e h = grind (arith, ints)

pub days_through-first : (a b : ℤ) → a ≤ℤ b → days_through a b ≡ suc (days_through (a +ℤ pos 1) b)
days_through-first a b h = grind (arith, ints)

pub days_through-last : (a b : ℤ) → a ≤ℤ b → days_through a b ≡ suc (days_through a (b -ℤ pos 1))
days_through-last a b h = grind (arith, ints)

pub days_through-none : (a b : ℤ) → b <ℤ a → days_through a b ≡ 0
days_through-none a b h = grind (arith, ints)

-- the days searched from a on go through b
pub days_through-within : (a b r : ℤ) → r <ℤ (a +ℤ pos (days_through a b)) → a ≤ℤ r → r ≤ℤ b
days_through-within a b r h low = elim (cases_Bool (int_le a b)) [
  | inl some ↦ let shown = rw some at h in omega (arith, ints, shown)
  | inr none ↦ let shown = rw none at h in absurd (omega (arith, ints, shown))
]

pub within-days_through : (a b r : ℤ) → a ≤ℤ r → r ≤ℤ b → r <ℤ (a +ℤ pos (days_through a b))
within-days_through a b r low high =
    grind (arith, ints)

-- the days searched from b backward go through a
pub days_through-within_back : (a b r : ℤ) → (b -ℤ pos (days_through a b)) <ℤ r → r ≤ℤ b → a ≤ℤ r
days_through-within_back a b r h high = elim (cases_Bool (int_le a b)) [
  | inl some ↦ let shown = rw some at h in omega (arith, ints, shown)
  | inr none ↦ let shown = rw none at h in absurd (omega (arith, ints, shown))
]

pub within-days_through_back : (a b r : ℤ) → a ≤ℤ r → r ≤ℤ b → (b -ℤ pos (days_through a b)) <ℤ r
within-days_through_back a b r low high =
    grind (arith, ints)

-- from a later day on there are fewer
pub days_through-smaller : (a b e : ℤ) → a ≤ℤ e → a <ℤ b → days_through b e < days_through a e
days_through-smaller a b e h later = grind (arith, ints)

-- a place among the days of a span, counted from its last day or its first, is a day of it
pub place_from_last : (a b : ℤ) (k : ℕ) → k < days_through a b → a ≤ℤ (b -ℤ pos k)
place_from_last a b k h = grind (arith, ints)

pub place_from_first : (a b : ℤ) (k : ℕ) → k < days_through a b → (a +ℤ pos k) ≤ℤ b
place_from_first a b k h = grind (arith, ints)

-- a day of a span has a place among its days
pub distance_within : (a b : ℤ) (k : ℕ) → a ≤ℤ b → pos k ≤ℤ (b -ℤ a) → k < days_through a b
distance_within a b k h near = grind (arith, ints)
