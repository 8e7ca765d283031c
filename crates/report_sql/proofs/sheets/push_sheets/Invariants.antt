use Rattle.std.proofs.Common.{◌≡◌, ◌++◌, drop}
use Rattle.std.specs.List.{flat_map}
use Rattle.report_sql.specs.Script.{sheet_rows}
use Rattle.report_sql.proofs.sheets.push_sheets.Given as goal

-- the cases so far, and those that are left, are all
abbrev pub invariant-loop-sheet : goal.invariant-loop-sheet
invariant-loop-sheet l = l.out ++ flat_map (sheet_rows l.court l.labels) (drop l.sheet-index l.sheets) ≡ l.fn.out ++ flat_map (sheet_rows l.court l.labels) l.sheets
