use Rattle.std.proofs.Common.{◌≡◌, ◌++◌, drop, filter_map}
use Rattle.docket_selection.specs.Due.{due_deadline}
use Rattle.docket_selection.proofs.due.push_deadlines.Given as goal

-- the deadlines so far, and those that are left, are all that are due
abbrev pub invariant-loop-deadline : goal.invariant-loop-deadline
invariant-loop-deadline l = l.list.items ++ filter_map (due_deadline l.days l.clock l.case l.choice l.before) (drop l.deadline-index l.deadlines) ≡ l.fn.list.items ++ filter_map (due_deadline l.days l.clock l.case l.choice l.before) l.deadlines
