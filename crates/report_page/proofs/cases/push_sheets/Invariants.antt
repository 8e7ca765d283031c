use Rattle.std.proofs.Common.{◌≡◌, ◌++◌, drop}
use Rattle.std.specs.List.{flat_map}
use Rattle.report_page.specs.Cases.{case_part}
use Rattle.report_page.proofs.cases.push_sheets.Given as goal

-- the parts so far, and those that are left, are all
abbrev pub invariant-loop-sheet : goal.invariant-loop-sheet
invariant-loop-sheet l = l.page ++ flat_map (case_part l.court l.days l.labels) (drop l.sheet-index l.sheets) ≡ l.fn.page ++ flat_map (case_part l.court l.days l.labels) l.sheets
