use Rattle.std.proofs.Common.{◌≡◌, ◌++◌, drop, string_bytes}
use Rattle.std.specs.List.{flat_map}
use Rattle.report_memo.specs.Sheets.{moved_on_sheet}
use Rattle.report_memo.proofs.whole.push_moved_notes.Given as goal

-- the notes so far, and those for the acts of the deadlines that are left, are all the notes
abbrev pub invariant-loop-other : goal.invariant-loop-other
invariant-loop-other l = string_bytes l.text ++ flat_map (moved_on_sheet l.row) (drop l.other-index l.others) ≡ string_bytes l.fn.text ++ flat_map (moved_on_sheet l.row) l.others
