use Rattle.std.proofs.Common.{◌≡◌, ◌++◌, drop, map}
use Rattle.report_ics.specs.Appointments.{appointment_of}
use Rattle.report_ics.proofs.appointment.push_items.Given as goal

-- the items so far, and those that are left, are all
abbrev pub invariant-loop-item : goal.invariant-loop-item
invariant-loop-item l = l.list.items ++ map (appointment_of l.histories) (drop l.item-index l.items) ≡ l.fn.list.items ++ map (appointment_of l.histories) l.items
