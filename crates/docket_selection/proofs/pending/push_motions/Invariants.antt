use Rattle.std.proofs.Common.{◌≡◌, ◌++◌, drop}
use Rattle.std.specs.List.{flat_map}
use Rattle.docket_selection.specs.Pending.{motion_if_pending}
use Rattle.docket_selection.proofs.pending.push_motions.Given as goal

-- those of the motions so far that are listed, and of those that are left, are all
abbrev pub invariant-loop-motion : goal.invariant-loop-motion
invariant-loop-motion l = l.list.items ++ flat_map (motion_if_pending l.day l.judge l.case l.facts) (drop l.motion-index l.motions) ≡ l.fn.list.items ++ flat_map (motion_if_pending l.day l.judge l.case l.facts) l.motions
