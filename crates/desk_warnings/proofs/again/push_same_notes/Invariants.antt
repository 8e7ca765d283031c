use Rattle.std.proofs.Common.{◌≡◌, ◌++◌, drop, string_bytes}
use Rattle.std.specs.List.{flat_map}
use Rattle.desk_warnings.specs.Again.{same_note}
use Rattle.desk_warnings.proofs.again.push_same_notes.Given as goal

-- the notes so far, and those for the deadlines that are left, are all the notes
abbrev pub invariant-loop-other : goal.invariant-loop-other
invariant-loop-other l = string_bytes l.text ++ flat_map (same_note l.moved l.case l.row) (drop l.other-index l.others) ≡ string_bytes l.fn.text ++ flat_map (same_note l.moved l.case l.row) l.others
