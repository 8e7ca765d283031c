-- Which other readings give a deadline another end than the one that is shown.
use Rattle.std.specs.Prelude.{◌≡◌, Bool, true, false, not, List, [], ◌∷◌, map, Option, Some, None, if◌then◌else◌}
use Rattle.std.specs.List.{fold}
use Rattle.std.specs.Ordering.{int_eq}
use Rattle.court_clock.specs.Words.{ClockView}
use Rattle.rule6.specs.declared.timeliness.Shown.{Shown}
use Rattle.rule6.specs.declared.timeliness.Shown.TheVariants.{Last, Until, Beyond}
use Rattle.rule_periods.specs.Words.{DeadlineRowView, shown_of}
use Rattle.reason_notes.specs.declared.readings.reading.Reading.{Reading}
use Rattle.reason_notes.specs.declared.readings.reading.Reading.TheVariants.{OutageMovesNothing, OutageMovesService, ExtendedFromMovedDay, OutageBeforeAddedDays, HoursFromEndOfDay, FridayIsOpen, DoubtfulIsOpen}
use Rattle.reason_notes.specs.Readings.ByReading.{DaysByReadingView}
use Rattle.reason_notes.specs.Readings.Earlier.{earlier_of, is_earlier}
use Rattle.reason_notes.specs.Readings.Readings.{shown_by}

-- all of them, in the order of their lines
abbrev pub all_readings : List Reading
all_readings = OutageMovesNothing ∷ OutageMovesService ∷ ExtendedFromMovedDay ∷ OutageBeforeAddedDays ∷ HoursFromEndOfDay ∷ FridayIsOpen ∷ DoubtfulIsOpen ∷ []

-- Two ends aren't the same: they are two days or two instants, or of two kinds, as where no covered day ends the time by one
-- reading alone.
abbrev pub differs : Shown → Shown → Bool
differs (Last day act) (Last other act') = not (int_eq day other)
differs (Last day act) (Until u) = true
differs (Last day act) Beyond = true
differs (Until t) (Last other act') = true
differs (Until t) (Until u) = not (int_eq t u)
differs (Until t) Beyond = true
differs Beyond (Last other act') = true
differs Beyond (Until u) = true
differs Beyond Beyond = false

-- the end, if there is one and it differs from that which is shown
abbrev pub if_differs : Shown → Option Shown → Option Shown
if_differs shown (Some other) = if differs shown other then Some other else None
if_differs shown None = None

-- what a reading gives in place of the end that is shown, where it gives another
abbrev pub other_by : DaysByReadingView → ClockView → DeadlineRowView → Reading → Option Shown
other_by c clock row reading = if_differs (shown_of c.here clock row) (shown_by c clock row reading)

-- the earliest of some ends, if there is one, and of those that come at once the first
abbrev pub earliest_of : ClockView → List (Option Shown) → Option Shown
earliest_of clock ends = fold (earlier_of clock) None ends

-- the earliest other end, if a reading gives one, and of those that come at once the first in the order of the lines
unfoldable pub other_end : DaysByReadingView → ClockView → DeadlineRowView → Option Shown
other_end c clock row = earliest_of clock (map (other_by c clock row) all_readings)

-- The end is one that a reading gives in place of the end that is shown, and no reading gives one that comes before it.
pub record IsEarliest (c : DaysByReadingView) (clock : ClockView) (row : DeadlineRowView) (end : Shown) : Type 0 where
  pub given : (reading : Reading) × (other_by c clock row reading ≡ Some end)
  pub least : (reading : Reading) (other : Shown) → other_by c clock row reading ≡ Some other → is_earlier clock other end ≡ false

-- the other end is the earliest
abbrev pub OtherEndIsEarliest : Type 0
OtherEndIsEarliest = (c : DaysByReadingView) (clock : ClockView) (row : DeadlineRowView) (end : Shown) → other_end c clock row ≡ Some end → IsEarliest c clock row end
