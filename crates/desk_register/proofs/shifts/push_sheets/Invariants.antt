use Rattle.std.proofs.Common.{◌≡◌, ◌+◌, ◌-◌, ◌≤◌, ◌++◌, string_bytes}
use Rattle.docket_rows.specs.Words.{Rows, setup_of}
use Rattle.office_texts.specs.Run.Words.{Holds}
use Rattle.desk_register.specs.Shifts.{shifts_from}
use Rattle.desk_register.proofs.shifts.push_sheets.Given as goal

-- the lines so far, and those of the cases that are left, are all the lines
abbrev pub invariant-loop-case : goal.invariant-loop-case
invariant-loop-case l = record {
  within : l.case ≤ l.fn.first + l.fn.count;
  so_far : (docketed : Rows) → Holds (setup_of l.court) l.docket docketed → string_bytes l.text ++ shifts_from l.court docketed l.moved l.cases.named l.before l.case (l.fn.first + l.fn.count - l.case) ≡ string_bytes l.fn.text ++ shifts_from l.court docketed l.moved l.cases.named l.before l.fn.first l.fn.count;
}
