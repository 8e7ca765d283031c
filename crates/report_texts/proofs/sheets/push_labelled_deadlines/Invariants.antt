use Rattle.std.proofs.Common.{◌≡◌, ◌++◌, drop, string_bytes}
use Rattle.std.specs.List.{flat_map}
use Rattle.report_texts.specs.Sheets.{labelled_deadline}
use Rattle.report_texts.proofs.sheets.push_labelled_deadlines.Given as goal

-- the lines so far, and those that are left, are all
abbrev pub invariant-loop-deadline : goal.invariant-loop-deadline
invariant-loop-deadline l = string_bytes l.text ++ flat_map (labelled_deadline l.clock l.labels l.case) (drop l.deadline-index l.deadlines) ≡ string_bytes l.fn.text ++ flat_map (labelled_deadline l.clock l.labels l.case) l.deadlines
