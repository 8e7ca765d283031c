-- The last day of a period that is stated in days.
use Rattle.std.specs.Prelude.{◌≡◌, ◌↔◌, ℕ, zero, suc, ℤ, pos, ◌+ℤ◌, ◌-ℤ◌, Bool, true, false, Option, Some}
use Rattle.std.specs.Option.{option_and_then}
use Rattle.court_clock.specs.declared.direction.Direction.{Direction}
use Rattle.court_clock.specs.Words.{counted_from}
use Rattle.court_days.specs.Words.{DaysView, IsRolled, rolled}
use Rattle.court_clock.specs.declared.direction.Direction.TheVariants.{After, Before}

-- The day of the event is excluded and every other day counts; a last day that isn't permitted gives way to the
-- next one that is, in the direction of the period (Fed. R. Civ. P. 6(a)(1), (5)).
abbrev pub expiry_of : DaysView → ℤ → ℕ → Direction → Option ℤ
expiry_of c event n direction = rolled c (counted_from event n direction) direction

-- The last day of a period of n days. Where three days are added for the kind of service (Fed. R. Civ. P. 6(d)),
-- they are counted after the period would otherwise expire, and the day they end on is rolled again.
unfoldable pub last_day_of : DaysView → ℤ → ℕ → Direction → Bool → Option ℤ
last_day_of c event n direction false = expiry_of c event n direction
last_day_of c event n direction true = option_and_then (λ last. expiry_of c last 3 After) (expiry_of c event n direction)

-- the day that comes next, going away from the event
abbrev pub next_day : Direction → ℤ → ℤ
next_day After d = d +ℤ pos 1
next_day Before d = d -ℤ pos 1

-- d is the n-th day that is counted from an event: the day of the event is excluded, and every day that follows counts
-- (6(a)(1)(A), (B))
abbrev pub IsNthDay : Direction → ℤ → ℕ → ℤ → Type 0
IsNthDay direction event zero d = d ≡ event
IsNthDay direction event (suc n) d = IsNthDay direction (next_day direction event) n d

-- The period of n days expires on this day: the n-th that is counted is included, and if it is a Saturday, Sunday or
-- legal holiday, the period runs until the nearest day that is none (6(a)(1)(C)), backward for a period measured
-- before its event (6(a)(5)).
pub record IsExpiry (c : DaysView) (event : ℤ) (n : ℕ) (direction : Direction) (last : ℤ) : Type 0 where
  pub nth : ℤ
  pub counted : IsNthDay direction event n nth
  pub nearest : IsRolled c nth direction last

-- three days are added after the day on which the period would otherwise expire (6(d)), counted and rolled as days are
pub record IsThreeDaysLater (c : DaysView) (event : ℤ) (n : ℕ) (direction : Direction) (last : ℤ) : Type 0 where
  pub expiry : ℤ
  pub otherwise : IsExpiry c event n direction expiry
  pub three_more : IsExpiry c expiry 3 After last

-- the last day of a period, to which three days are added or not
abbrev pub IsLastDay : DaysView → ℤ → ℕ → Direction → Bool → ℤ → Type 0
IsLastDay c event n direction false last = IsExpiry c event n direction last
IsLastDay c event n direction true last = IsThreeDaysLater c event n direction last

-- What the last day means: it is the day that is counted in this way, and there is none only where no day is counted.
abbrev pub LastDayIsCounted : Type 0
LastDayIsCounted = (c : DaysView) (event : ℤ) (n : ℕ) (direction : Direction) (added : Bool) (last : ℤ) → (last_day_of c event n direction added ≡ Some last) ↔ IsLastDay c event n direction added last
