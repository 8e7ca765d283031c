use Rattle.std.proofs.Common.{◌≡◌, ◌++◌, drop, filter_map}
use Rattle.docket_selection.specs.LeftOut.{left_out_deadline}
use Rattle.docket_selection.proofs.left_out.push_deadlines.Given as goal

-- those so far, and those of the deadlines to come, are all that are left out
abbrev pub invariant-loop-deadline : goal.invariant-loop-deadline
invariant-loop-deadline l = l.list.items ++ filter_map (left_out_deadline l.clock l.case l.choice l.before l.closed) (drop l.deadline-index l.deadlines) ≡ l.fn.list.items ++ filter_map (left_out_deadline l.clock l.case l.choice l.before l.closed) l.deadlines
