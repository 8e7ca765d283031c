-- Whether the case that alone is chosen is open, and with that all that may not be there.
use Rattle.std.specs.Prelude.{ℕ, Bool, true, false, List, Option, Some, None, Result, Ok, Err, if◌then◌else◌}
use Rattle.case_numbers.specs.declared.names.NamedCase.{NamedCase}
use Rattle.court_days.specs.Words.{CourtView}
use Rattle.docket_rows.specs.declared.query.Query.TheVariants as query
use Rattle.docket_rows.specs.declared.view.View.{View}
use Rattle.docket_rows.specs.declared.view.View.TheVariants as view
use Rattle.docket_rows.specs.Words.{Rows, opening_rows, setup_of, view_of}
use Rattle.row_forms.specs.declared.numbered.NumberedRow.{NumberedRow}
use Rattle.row_forms.specs.Words.{rows_of}
use Rattle.office_texts.specs.Run.Words.{docketed_after}
use Rattle.report_program.specs.declared.asked.Asked.{Asked}
use Rattle.report_program.specs.declared.chosen.Chosen.{Chosen}
use Rattle.report_program.specs.declared.chosen.Chosen.TheVariants.{Json, Listed}
use Rattle.report_program.specs.declared.chosen.Listing.TheVariants.{Case, Due, Ics, Page, Sheet}
use Rattle.report_program.specs.declared.chosen.Missing.{Missing}
use Rattle.report_program.specs.declared.chosen.Missing.TheVariants.{Closed}
use Rattle.report_program.specs.Chosen.{◌>>=◌, chosen_of}

-- the case that alone is chosen, if one is
abbrev pub case_chosen : Chosen → Option ℕ
case_chosen (Listed (Due choice)) = choice.case
case_chosen (Listed (Page choice)) = choice.case
case_chosen (Listed (Ics choice stamp)) = choice.case
case_chosen (Listed (Sheet case)) = Some case
case_chosen (Listed (Case case)) = Some case
case_chosen (Json choice) = choice.case
case_chosen _ = None

abbrev pub is_sheet : View → Bool
is_sheet (view.Sheet sheet) = true
is_sheet _ = false

-- the docket after all rows shows the sheet of the case
abbrev pub is_open_after : CourtView → List NumberedRow → (case : ℕ) → Bool
is_open_after court rows case =
    is_sheet (view_of (setup_of court) (docketed_after (setup_of court) (opening_rows (setup_of court)) (rows_of rows)) (query.Sheet case))

-- the case, if one is given that no row has opened
abbrev pub closed_case : CourtView → List NumberedRow → Option ℕ → Option ℕ
closed_case court rows (Some case) = if is_open_after court rows case then None else Some case
closed_case court rows None = None

abbrev pub unless_closed : Chosen → Option ℕ → Result Chosen Missing
unless_closed chosen (Some case) = Err (Closed case)
unless_closed chosen None = Ok chosen

-- what is chosen, unless it is of a case alone that no row has opened
abbrev pub if_open : CourtView → List NumberedRow → Chosen → Result Chosen Missing
if_open court rows chosen = unless_closed chosen (closed_case court rows (case_chosen chosen))

-- what is chosen, or the first that isn't there: the case by its name, the judge, the day of a week, the case by the rows
unfoldable pub found_of : CourtView → List NamedCase → List NumberedRow → Asked → Result Chosen Missing
found_of court named rows asked = do
  chosen ← chosen_of court named asked
  if_open court rows chosen

-- the same of a docket that has taken all rows: the case that alone is chosen, if one is
abbrev pub case_of : Result Chosen Missing → Option ℕ
case_of (Ok chosen) = case_chosen chosen
case_of (Err missing) = None

-- none of a case whose sheet is shown
abbrev pub unless_sheet : View → (case : ℕ) → Option ℕ
unless_sheet view case = if is_sheet view then None else Some case

abbrev pub closed_in : CourtView → (docketed : Rows) → Option ℕ → Option ℕ
closed_in court docketed (Some case) = unless_sheet (view_of (setup_of court) docketed (query.Sheet case)) case
closed_in court docketed None = None

abbrev pub found_unless : Result Chosen Missing → (closed : Option ℕ) → Result Chosen Missing
found_unless chosen (Some case) = Err (Closed case)
found_unless chosen None = chosen
