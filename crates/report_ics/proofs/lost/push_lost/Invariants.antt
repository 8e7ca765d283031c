use Rattle.std.proofs.Common.{◌≡◌, ◌++◌, drop}
use Rattle.report_ics.specs.Appointments.{lost_deadlines}
use Rattle.report_ics.proofs.lost.push_lost.Given as goal

-- the deadlines so far, and those among the ones that are left, are all
abbrev pub invariant-loop-item : goal.invariant-loop-item
invariant-loop-item l = l.list.items ++ lost_deadlines l.choice l.histories (drop l.item-index l.lost) ≡ l.fn.list.items ++ lost_deadlines l.choice l.histories l.lost
