use Rattle.std.proofs.Common.{◌≡◌, ◌+◌, ◌-◌, ◌≤◌, ◌++◌, string_bytes}
use Rattle.docket_rows.specs.Words.{Rows, setup_of}
use Rattle.office_texts.specs.Run.Words.{Holds}
use Rattle.docket_shifts.specs.Compared.{rows_shown}
use Rattle.docket_shifts.specs.Shifts.{shifts_from}
use Rattle.docket_shifts.proofs.shifts.push_cases.Given as goal

-- the lines so far, and those of the cases that are left, are all the lines
abbrev pub invariant-loop-case : goal.invariant-loop-case
invariant-loop-case l = record {
  within : l.case ≤ l.fn.first + l.fn.count;
  so_far : (was is : Rows) → Holds (setup_of l.before.court) l.before.docket was → Holds (setup_of l.after.court) l.after.docket is
      → string_bytes l.text ++ shifts_from (rows_shown l.before was) (rows_shown l.after is) l.case (l.fn.first + l.fn.count - l.case) ≡ string_bytes l.fn.text ++ shifts_from (rows_shown l.before was) (rows_shown l.after is) l.fn.first l.fn.count;
}
