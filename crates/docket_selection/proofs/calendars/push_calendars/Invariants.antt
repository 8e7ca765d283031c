use Rattle.std.proofs.Common.{◌≡◌, ◌-◌, ◌++◌}
use Rattle.docket_rows.specs.Words.{Rows}
use Rattle.docket_core.specs.Words.{StandsFor}
use Rattle.docket_selection.specs.Calendars.{calendars_from}
use Rattle.docket_selection.proofs.calendars.push_calendars.Given as goal

-- the calendars so far, and those of the judges that are left, are all
abbrev pub invariant-loop-judge : goal.invariant-loop-judge
invariant-loop-judge l = (docketed : Rows) → StandsFor l.docket docketed → l.list.items ++ calendars_from l.docket.setup docketed l.choice l.judge (l.count - l.judge) ≡ l.fn.list.items ++ calendars_from l.docket.setup docketed l.choice 0 l.count
