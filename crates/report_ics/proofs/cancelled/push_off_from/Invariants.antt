use Rattle.std.proofs.Common.{◌≡◌, ◌+◌, ◌-◌, ◌≤◌, ◌++◌}
use Rattle.report_ics.specs.Appointments.{off_from}
use Rattle.report_ics.proofs.cancelled.push_off_from.Given as goal

-- those of the cases so far, and of the cases that are left, are all
abbrev pub invariant-loop-case : goal.invariant-loop-case
invariant-loop-case l = record {
  within : l.case ≤ l.fn.first + l.fn.count;
  so_far : l.list.items ++ off_from l.choice l.histories l.case (l.fn.first + l.fn.count - l.case) ≡ l.fn.list.items ++ off_from l.choice l.histories l.fn.first l.fn.count;
}
