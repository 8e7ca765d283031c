use Rattle.std.proofs.Common.{◌≡◌, ◌++◌, drop}
use Rattle.std.specs.List.{flat_map}
use Rattle.report_page.specs.Cases.{motion_row}
use Rattle.report_page.proofs.motions.push_rows.Given as goal

-- the rows so far, and those that are left, are all
abbrev pub invariant-loop-motion : goal.invariant-loop-motion
invariant-loop-motion l = l.page ++ flat_map (motion_row l.court l.labels l.case) (drop l.motion-index l.motions) ≡ l.fn.page ++ flat_map (motion_row l.court l.labels l.case) l.motions
