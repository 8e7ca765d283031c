use Rattle.std.proofs.Common.{◌≡◌, ◌++◌, drop}
use Rattle.std.specs.List.{flat_map}
use Rattle.report_sql.specs.Called.{label_of_motion}
use Rattle.report_sql.proofs.called.push_motions.Given as goal

-- the labels so far, and those that are left, are all
abbrev pub invariant-loop-motion : goal.invariant-loop-motion
invariant-loop-motion l = l.out ++ flat_map (label_of_motion l.labels l.case) (drop l.motion-index l.motions) ≡ l.fn.out ++ flat_map (label_of_motion l.labels l.case) l.motions
