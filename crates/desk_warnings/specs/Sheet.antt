-- The deadlines of a case, as its sheet shows them.
use Rattle.std.specs.Prelude.{ℕ, List, []}
use Rattle.docket_rows.specs.declared.query.Query.TheVariants as query
use Rattle.docket_rows.specs.declared.sheet.SheetDeadline.{SheetDeadline}
use Rattle.docket_rows.specs.declared.view.View.{View}
use Rattle.docket_rows.specs.declared.view.View.TheVariants as view
use Rattle.docket_rows.specs.Words.{CourtSetup, Parts, seen_by}

-- those of the sheet that is seen; none where none is
abbrev pub deadlines_seen : View → List SheetDeadline
deadlines_seen (view.Sheet sheet) = sheet.deadlines
deadlines_seen v = []

abbrev pub sheet_deadlines : CourtSetup → Parts → (case : ℕ) → List SheetDeadline
sheet_deadlines setup parts case = deadlines_seen (seen_by setup parts (query.Sheet case))
