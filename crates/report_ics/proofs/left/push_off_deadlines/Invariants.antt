use Rattle.std.proofs.Common.{◌≡◌, ◌++◌, drop}
use Rattle.report_ics.specs.Appointments.{off_deadlines}
use Rattle.report_ics.proofs.left.push_off_deadlines.Given as goal

-- the deadlines so far, and those among the items that are left, are all
abbrev pub invariant-loop-item : goal.invariant-loop-item
invariant-loop-item l = l.list.items ++ off_deadlines l.histories (drop l.item-index l.others) ≡ l.fn.list.items ++ off_deadlines l.histories l.others
