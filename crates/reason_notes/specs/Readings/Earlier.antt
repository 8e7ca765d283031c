-- Which of two ends comes first: by their days on the court's clock, and of two on one day by the time at which they end.
use Rattle.std.specs.Prelude.{ℤ, int_lt, Bool, true, false, ◌&&◌, ◌||◌, Option, Some, None, if◌then◌else◌}
use Rattle.std.specs.Ordering.{int_eq}
use Rattle.court_clock.specs.Words.{ClockView}
use Rattle.rule6.specs.declared.timeliness.Shown.{Shown}
use Rattle.rule6.specs.declared.timeliness.Shown.TheVariants.{Last, Until, Beyond}
use Rattle.reason_notes.specs.Margins.Ends.{end_day}

-- of two ends on one day the first comes before the other: an instant before a later one, and before the end of the day itself
abbrev pub is_earlier_on_day : Shown → Shown → Bool
is_earlier_on_day (Until t) (Until u) = int_lt t u
is_earlier_on_day (Until t) (Last day act) = true
is_earlier_on_day (Until t) Beyond = true
is_earlier_on_day (Last day act) other = false
is_earlier_on_day Beyond other = false

-- the first day comes before the other, or is the same and the end on it comes before; what has no day comes after all days
abbrev pub is_earlier_by_day : (day other : Option ℤ) → (on_day : Bool) → Bool
is_earlier_by_day (Some day) (Some other) on_day = int_lt day other || (int_eq day other && on_day)
is_earlier_by_day (Some day) None on_day = true
is_earlier_by_day None other on_day = false

-- the first end comes before the other
abbrev pub is_earlier : ClockView → Shown → Shown → Bool
is_earlier clock end other = is_earlier_by_day (end_day clock end) (end_day clock other) (is_earlier_on_day end other)

-- the earlier of the ends that there are, and of two that come at once the first
abbrev pub earlier_of : ClockView → (first second : Option Shown) → Option Shown
earlier_of clock None second = second
earlier_of clock (Some end) None = Some end
earlier_of clock (Some end) (Some other) = if is_earlier clock other end then Some other else Some end
