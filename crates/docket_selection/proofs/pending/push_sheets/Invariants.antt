use Rattle.std.proofs.Common.{◌≡◌, ◌++◌, drop}
use Rattle.std.specs.List.{flat_map}
use Rattle.docket_rows.specs.Words.{facts_in}
use Rattle.docket_core.specs.Words.{parts_held}
use Rattle.docket_selection.specs.Pending.{listed_under}
use Rattle.docket_selection.proofs.pending.push_sheets.Given as goal

-- what is listed of the sheets so far, and of those that are left, is all
abbrev pub invariant-loop-sheet : goal.invariant-loop-sheet
invariant-loop-sheet l = l.list.items ++ flat_map (listed_under l.kind l.day (facts_in (parts_held l.docket)) l.judge) (drop l.sheet-index l.sheets) ≡ l.fn.list.items ++ flat_map (listed_under l.kind l.day (facts_in (parts_held l.docket)) l.judge) l.sheets
