-- What is due of a closed case.
use Rattle.std.specs.Prelude.{◌≡◌, ℕ, ℤ, true, false, List}
use Rattle.std.specs.List.{filter_map}
use Rattle.docket_rows.specs.declared.query.Query.TheVariants as query
use Rattle.docket_rows.specs.declared.sheet.Sheet.{Sheet}
use Rattle.docket_rows.specs.declared.view.View.TheVariants as view
use Rattle.docket_rows.specs.Words.{CourtSetup, Rows, is_closed, parts_of, view_of}
use Rattle.reason_notes.specs.Readings.Words.{days_by_reading}
use Rattle.docket_selection.specs.declared.choice.Choice.{Choice}
use Rattle.docket_selection.specs.Choice.{is_before}
use Rattle.docket_selection.specs.Due.{due_hearing, due_in}

-- of the sheet of a closed case nothing is due but hearings, by any reading, unless deadlines that were met or ended are chosen too
abbrev pub ClosedCasesAreNotDue : Type 0
ClosedCasesAreNotDue = (setup : CourtSetup) (rows : Rows) (doubtful : List ℤ) (choice : Choice) (case : ℕ) (sheet : Sheet)
    → choice.met ≡ false → is_closed (parts_of rows) case ≡ true → view_of setup rows (query.Sheet case) ≡ view.Sheet sheet
    → due_in (days_by_reading rows.days doubtful) setup.clock choice sheet ≡ filter_map (due_hearing sheet.case choice (is_before choice sheet.assigned sheet.motions)) sheet.motions
