use Rattle.std.proofs.Common.{◌≡◌, ◌++◌, drop, map}
use Rattle.docket_rows.specs.Words.{Rows}
use Rattle.docket_core.specs.Words.{StandsFor}
use Rattle.docket_selection.specs.Bookings.{day_bookings}
use Rattle.docket_selection.proofs.bookings.bookings_on.Given as goal

-- the days so far, and those that are left, are all
abbrev pub invariant-loop-day : goal.invariant-loop-day
invariant-loop-day l = (docketed : Rows) → StandsFor l.docket docketed → l.list.items ++ map (day_bookings l.docket.setup docketed l.judge) (drop l.day-index l.days) ≡ map (day_bookings l.docket.setup docketed l.judge) l.days
