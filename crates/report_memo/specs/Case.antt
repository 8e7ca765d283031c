-- The memo of one case: its whole sheet, as it is after all rows, with the numbers of its deadlines and motions.
use Rattle.std.specs.Prelude.{◌≡◌, ℕ, ℤ, List, ◌++◌, Option, codes, map}
use Rattle.case_numbers.specs.Words.{case_text}
use Rattle.case_numbers.specs.declared.names.NamedCase.{NamedCase}
use Rattle.court_days.specs.Words.{CourtView}
use Rattle.docket_rows.specs.declared.query.Query.TheVariants as query
use Rattle.docket_rows.specs.declared.view.View.{View}
use Rattle.docket_rows.specs.declared.view.View.TheVariants as view
use Rattle.docket_rows.specs.Words.{Rows, opening_rows, setup_of, view_of}
use Rattle.desk_numbers.specs.declared.moved.Moved.{Moved}
use Rattle.desk_numbers.specs.Words.{numbered_view}
use Rattle.row_forms.specs.declared.numbered.NumberedRow.{NumberedRow}
use Rattle.row_forms.specs.Words.{rows_of}
use Rattle.office_texts.specs.Run.Words.{docketed_after}
use Rattle.reason_notes.specs.Readings.Words.{DaysByReadingView}
use Rattle.report_memo.specs.declared.detail.Detail.{Detail}
use Rattle.report_memo.specs.declared.detail.Detail.TheVariants.{Whole}
use Rattle.report_texts.specs.Words.{LabelsView}
use Rattle.report_memo.specs.Sources.{numbered_source, sources_made}
use Rattle.report_memo.specs.Reasons.{days_docketed}
use Rattle.report_memo.specs.Sheets.{IsSheet}

-- the line of a case that isn't open
abbrev pub closed_line : List NamedCase → (case : ℕ) → List ℕ
closed_line named case = codes "docket: case " ++ case_text named case ++ codes " isn't open: no row has opened it\n"

-- the sheet of the case with that much detail, where the view is one
abbrev pub IsCaseShown : CourtView → LabelsView → DaysByReadingView → Detail → View → List ℕ → Type 0
IsCaseShown court labels days detail (view.Sheet sheet) text = IsSheet court labels days detail sheet text
IsCaseShown court labels days detail _ text = ⊥

-- the line of a case that isn't open, where the view is no sheet
abbrev pub IsClosed : List NamedCase → (case : ℕ) → View → List ℕ → Type 0
IsClosed named case (view.Sheet sheet) line = ⊥
IsClosed named case _ line = line ≡ closed_line named case

-- what the sheet of the case is asked for shows, by what is docketed
abbrev pub case_view : CourtView → List Moved → (docketed : Rows) → (case : ℕ) → View
case_view court moved docketed case = numbered_view moved (view_of (setup_of court) docketed (query.Sheet case))

-- the sheet, by what is docketed
abbrev pub IsCaseOf : CourtView → LabelsView → (docketed : Rows) → (case : ℕ) → Detail → List ℕ → Type 0
IsCaseOf court labels docketed case detail = IsCaseShown court labels (days_docketed labels docketed) detail (case_view court labels.moved docketed case)

-- the whole sheet after all rows, with what they did to the deadlines of the case
abbrev pub IsCaseMemo : CourtView → LabelsView → List NumberedRow → (case : ℕ) → (today : Option ℤ) → List ℕ → Type 0
IsCaseMemo court labels rows case today =
    let opening = opening_rows (setup_of court) in
    IsCaseOf court labels (docketed_after (setup_of court) opening (rows_of rows)) case
    (Whole today (map (numbered_source labels.moved case) (sources_made (setup_of court) case opening rows)))

-- the line of a case that no row has opened
abbrev pub IsCaseClosed : CourtView → LabelsView → List NumberedRow → (case : ℕ) → List ℕ → Type 0
IsCaseClosed court labels rows case =
    IsClosed labels.cases case (case_view court labels.moved (docketed_after (setup_of court) (opening_rows (setup_of court)) (rows_of rows)) case)
