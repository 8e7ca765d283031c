use Rattle.std.proofs.Common.{◌≡◌, ◌++◌, drop}
use Rattle.std.specs.List.{flat_map}
use Rattle.report_sql.specs.Hearings.{motion_rows}
use Rattle.report_sql.proofs.sheets.push_motions.Given as goal

-- the motions so far, and those that are left, are all
abbrev pub invariant-loop-motion : goal.invariant-loop-motion
invariant-loop-motion l = l.out ++ flat_map (motion_rows l.court l.case) (drop l.motion-index l.motions) ≡ l.fn.out ++ flat_map (motion_rows l.court l.case) l.motions
