-- Days as whole numbers counted from 1970-01-01, which was a Thursday.
pub mod Date
pub mod Months
pub mod Search
use Rattle.std.specs.Prelude.{ℕ, ℤ, pos, neg_ℤ, ◌+ℤ◌, ◌-ℤ◌, ◌≤ℤ◌, Bool, nat_le, unsigned_abs}
use Rattle.std.specs.Int.{int_rem_euclid}
use Rattle.court_clock.specs.declared.direction.Direction.{Direction}
use Rattle.court_clock.specs.declared.direction.Direction.TheVariants.{After, Before}

-- the numbers that a day may have: some 301 years to either side of 1970-01-01
pub record IsDayNumber (n : ℤ) : Type 0 where
  pub low : neg_ℤ (pos 110_000) ≤ℤ n
  pub high : n ≤ℤ pos 110_000

-- the weekday, from 0 for Monday to 6 for Sunday
abbrev pub weekday_of : ℤ → ℕ
weekday_of d = unsigned_abs (int_rem_euclid (d +ℤ pos 3) (pos 7))

-- a Saturday or a Sunday
abbrev pub is_weekend : ℤ → Bool
is_weekend d = nat_le 5 (weekday_of d)

-- the day that is n days after an event, or before it
abbrev pub counted_from : ℤ → ℕ → Direction → ℤ
counted_from event n After = event +ℤ pos n
counted_from event n Before = event -ℤ pos n
