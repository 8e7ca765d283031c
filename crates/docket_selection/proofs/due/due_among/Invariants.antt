use Rattle.std.proofs.Common.{◌≡◌, ◌++◌, drop}
use Rattle.std.specs.List.{flat_map}
use Rattle.docket_selection.specs.Due.{due_in}
use Rattle.docket_selection.proofs.due.due_among.Given as goal

-- what is due of the sheets so far, and of those that are left, is all
abbrev pub invariant-loop-sheet : goal.invariant-loop-sheet
invariant-loop-sheet l = l.list.items ++ flat_map (due_in l.days l.clock l.choice) (drop l.sheet-index l.sheets) ≡ flat_map (due_in l.days l.clock l.choice) l.sheets
