use Rattle.std.proofs.Common.{◌≡◌, ◌++◌, drop, string_bytes}
use Rattle.std.specs.List.{flat_map}
use Rattle.report_memo.specs.Sheets.{whole_motion}
use Rattle.report_memo.proofs.whole.push_whole_motions.Given as goal

-- the lines so far, and those of the motions that are left, are all the lines
abbrev pub invariant-loop-motion : goal.invariant-loop-motion
invariant-loop-motion l = string_bytes l.text ++ flat_map (whole_motion l.court l.labels l.case l.days) (drop l.motion-index l.motions) ≡ string_bytes l.fn.text ++ flat_map (whole_motion l.court l.labels l.case l.days) l.motions
