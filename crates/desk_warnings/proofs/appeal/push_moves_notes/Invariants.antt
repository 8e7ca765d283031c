use Rattle.std.proofs.Common.{◌≡◌, ◌++◌, drop, string_bytes}
use Rattle.std.specs.List.{flat_map}
use Rattle.desk_warnings.specs.Appeal.{moves}
use Rattle.desk_warnings.proofs.appeal.push_moves_notes.Given as goal

-- the notes so far, and those for the deadlines that are left, are all the notes
abbrev pub invariant-loop-other : goal.invariant-loop-other
invariant-loop-other l = string_bytes l.text ++ flat_map (moves l.moved l.case l.row l.filing) (drop l.other-index l.others) ≡ string_bytes l.fn.text ++ flat_map (moves l.moved l.case l.row l.filing) l.others
