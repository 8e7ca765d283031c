-- The day to which a period runs whose last day may be a Saturday, Sunday or legal holiday.
use Rattle.std.specs.Prelude.{◌≡◌, ◌↔◌, ◌≤ℤ◌, ◌+ℤ◌, ℤ, pos, true, Option, Some, None, if◌then◌else◌}
use Rattle.court_clock.specs.declared.direction.Direction.{Direction}
use Rattle.court_clock.specs.declared.direction.Direction.TheVariants.{After, Before}
use Rattle.court_days.specs.Days.{DaysView, is_covered, is_permitted, is_open}
use Rattle.court_days.specs.Days.Search.{earliest_day, latest_day}

-- The next day that is permitted (Fed. R. Civ. P. 6(a)(1)(C)), found forward for a period measured after
-- an event and backward for one measured before it (6(a)(5)). None where the day isn't covered.
unfoldable pub rolled : DaysView → ℤ → Direction → Option ℤ
rolled c d After = if is_covered c d then earliest_day c (is_permitted c After) d else None
rolled c d Before = if is_covered c d then latest_day c (is_permitted c Before) d else None

-- The least later day that is permitted in the direction and on which the clerk's office was accessible
-- throughout (Fed. R. Civ. P. 6(a)(3)).
unfoldable pub next_accessible : DaysView → Direction → ℤ → Option ℤ
next_accessible c direction d = earliest_day c (is_open c direction true) (d +ℤ pos 1)

-- e is d, or further on in the direction
abbrev pub IsAtOrBeyond : Direction → ℤ → ℤ → Type 0
IsAtOrBeyond After d e = d ≤ℤ e
IsAtOrBeyond Before d e = e ≤ℤ d

-- r is, of the permitted days at or beyond the covered day d, the nearest to it
pub record IsRolled (c : DaysView) (d : ℤ) (direction : Direction) (r : ℤ) : Type 0 where
  pub covered : is_covered c d ≡ true
  pub permitted : is_permitted c direction r ≡ true
  pub beyond : IsAtOrBeyond direction d r
  pub nearest : (e : ℤ) → is_permitted c direction e ≡ true → IsAtOrBeyond direction d e → IsAtOrBeyond direction r e

-- what rolling means: its answer is the nearest permitted day, and there is none only where no day is that
abbrev pub RolledIsNearest : Type 0
RolledIsNearest = (c : DaysView) (d r : ℤ) (direction : Direction) → (rolled c d direction ≡ Some r) ↔ IsRolled c d direction r
