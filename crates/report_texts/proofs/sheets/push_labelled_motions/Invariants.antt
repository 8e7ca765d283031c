use Rattle.std.proofs.Common.{◌≡◌, ◌++◌, drop, string_bytes}
use Rattle.std.specs.List.{flat_map}
use Rattle.report_texts.specs.Sheets.{labelled_motion}
use Rattle.report_texts.proofs.sheets.push_labelled_motions.Given as goal

-- the lines so far, and those that are left, are all
abbrev pub invariant-loop-motion : goal.invariant-loop-motion
invariant-loop-motion l = string_bytes l.text ++ flat_map (labelled_motion l.court l.labels l.case) (drop l.motion-index l.motions) ≡ string_bytes l.fn.text ++ flat_map (labelled_motion l.court l.labels l.case) l.motions
