use Rattle.std.proofs.Common.{◌≡◌, ◌+◌, ◌-◌, ◌≤◌, ◌++◌}
use Rattle.docket_rows.specs.Words.{Rows}
use Rattle.docket_core.specs.Words.{StandsFor}
use Rattle.docket_selection.specs.Sheets.{sheets_from}
use Rattle.docket_selection.proofs.sheets.push_sheets.Given as goal

-- the sheets so far, and those of the cases that are left, are all
abbrev pub invariant-loop-case : goal.invariant-loop-case
invariant-loop-case l = record {
  within : l.case ≤ l.fn.first + l.fn.count;
  so_far : (docketed : Rows) → StandsFor l.docket docketed → l.list.items ++ sheets_from l.docket.setup docketed l.case (l.fn.first + l.fn.count - l.case) ≡ l.fn.list.items ++ sheets_from l.docket.setup docketed l.fn.first l.fn.count;
}
