-- The bookings of a calendar in blocks of 256 days in a row.
use Rattle.std.specs.Prelude.{◌≡◌, ℕ, ℤ, pos, ◌<ℤ◌, true, Option, Some, None, List, [], flat_map, All, AllPairs}
use Rattle.std.specs.Int.{int_div_euclid}
use Rattle.hearing_slots.specs.declared.booking.Booking.{Booking}
use Rattle.hearing_slots.specs.Booking.{is_of}
use Rattle.hearing_slots.specs.Inside.Places.{IsAt, IsGapAt}

-- the number of the block in which the day lies
abbrev pub block_of : ℤ → ℤ
block_of day = int_div_euclid day (pos 256)

-- the number of a block, and the bookings of its days
pub record BlockView : Type 0 where
  pub number : ℤ
  pub bookings : List Booking

-- the bookings of some blocks, one block after another
abbrev pub all_in : List BlockView → List Booking
all_in blocks = flat_map (λ (b : BlockView). b.bookings) blocks

-- the bookings that there are; none where there is nothing
abbrev pub booked_in : Option (List Booking) → List Booking
booked_in None = []
booked_in (Some bookings) = bookings

-- the blocks are by number, and each booking is in the block of its day
pub record AreBlocks (blocks : List BlockView) : Type 0 where
  pub rising : AllPairs (λ x y. x.number <ℤ y.number) blocks
  pub own : All (λ b. All (λ x. block_of x.day ≡ b.number) b.bookings) blocks

-- the block of that number is at the place
abbrev pub IsBlockAt : (blocks : List BlockView) (number : ℤ) (place : ℕ) → Type 0
IsBlockAt blocks number place = IsAt (λ (b : BlockView). b.number) blocks number place

-- no block has that number, and one would go to the place
abbrev pub IsGapForBlock : (blocks : List BlockView) (number : ℤ) (place : ℕ) → Type 0
IsGapForBlock blocks number place = IsGapAt (λ (b : BlockView). b.number) blocks number place

-- of the case and motion there are no bookings but in the block of that number
pub record LiesIn (number : ℤ) (case motion : ℕ) (bookings : List Booking) : Type 0 where
  pub each : All (λ x. is_of case motion x ≡ true → block_of x.day ≡ number) bookings
