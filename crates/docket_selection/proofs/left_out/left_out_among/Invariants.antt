use Rattle.std.proofs.Common.{◌≡◌, ◌++◌, drop}
use Rattle.std.specs.List.{flat_map}
use Rattle.docket_selection.specs.LeftOut.{left_out_in}
use Rattle.docket_selection.proofs.left_out.left_out_among.Given as goal

-- those of the sheets so far, and of those that are left, are all
abbrev pub invariant-loop-sheet : goal.invariant-loop-sheet
invariant-loop-sheet l = l.list.items ++ flat_map (left_out_in l.clock l.choice) (drop l.sheet-index l.sheets) ≡ flat_map (left_out_in l.clock l.choice) l.sheets
