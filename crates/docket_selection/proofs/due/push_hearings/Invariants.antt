use Rattle.std.proofs.Common.{◌≡◌, ◌++◌, drop, filter_map}
use Rattle.docket_selection.specs.Due.{due_hearing}
use Rattle.docket_selection.proofs.due.push_hearings.Given as goal

-- the hearings so far, and those of the motions that are left, are all that are due
abbrev pub invariant-loop-motion : goal.invariant-loop-motion
invariant-loop-motion l = l.list.items ++ filter_map (due_hearing l.case l.choice l.before) (drop l.motion-index l.motions) ≡ l.fn.list.items ++ filter_map (due_hearing l.case l.choice l.before) l.motions
