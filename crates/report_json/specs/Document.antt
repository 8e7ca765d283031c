-- The whole: the court, what each row was answered, the sheets of the chosen cases and the calendars of the chosen judges.
use Rattle.std.specs.Prelude.{◌≡◌, ℕ, List, [], ◌∷◌, ◌++◌, Option, Some, None, map, codes}
use Rattle.std.specs.Str.{IsUtf8}
use Rattle.json.specs.Json.{Json, document}
use Rattle.json.specs.Print.{print}
use Rattle.json.specs.Tree.{json_tokens}
use Rattle.court_days.specs.Words.{CourtView}
use Rattle.docket_rows.specs.Words.{Rows, opening_rows, setup_of}
use Rattle.docket_selection.specs.declared.choice.Choice.{Choice}
use Rattle.docket_selection.specs.Words.{chosen_calendars, chosen_sheets}
use Rattle.docket_selection.specs.declared.explained.explained.ExplainedSheet.{ExplainedSheet}
use Rattle.docket_selection.specs.Explained.Words.{AreExplained}
use Rattle.row_forms.specs.declared.numbered.NumberedRow.{NumberedRow}
use Rattle.row_forms.specs.Words.{rows_of}
use Rattle.office_texts.specs.Run.Words.{docketed_after, docketed_then, reply_to}
use Rattle.desk_numbers.specs.Words.{numbered, numbered_sheet}
use Rattle.report_texts.specs.Words.{LabelsView, numbered_calendar}
use Rattle.report_json.specs.Answers.{answered_value}
use Rattle.report_json.specs.Bookings.{calendar_value}
use Rattle.report_json.specs.Names.{judges_value}
use Rattle.report_json.specs.Reasons.{case_value}
use Rattle.report_json.specs.Times.{day_value, minute_value}
use Rattle.report_json.specs.Values.{Field, array_of, field, object_of}

-- when the clerk's office opens and closes, the first and the last day of the court's file, and its judges
abbrev pub office_fields : CourtView → List Field
office_fields court =
    field (codes "opens") (minute_value court.clock.opens)
    ∷ field (codes "closes") (minute_value court.clock.closes)
    ∷ field (codes "from") (day_value court.days.from)
    ∷ field (codes "to") (day_value court.days.to)
    ∷ field (codes "judges") (judges_value court)
    ∷ []

-- the minute to which electronic filing runs on a last day, if the court's file has one
abbrev pub until_fields : (minute : Option ℕ) → List Field
until_fields (Some minute) = field (codes "efiling_until") (minute_value minute) ∷ []
until_fields None = []

abbrev pub court_fields : CourtView → List Field
court_fields court = office_fields court ++ until_fields court.clock.efiling_until

unfoldable pub court_value : CourtView → Json
court_value court = object_of (court_fields court)

-- what each row is answered, with its number; deadlines and motions have the numbers that they keep
unfoldable pub answers_from : CourtView → LabelsView → (docketed : Rows) → List NumberedRow → List Json
answers_from court labels docketed [] = []
answers_from court labels docketed (n ∷ rows) =
    answered_value court labels.cases (record { number = n.number; clerk = n.row.clerk; reply = numbered labels.moved n.row.work (reply_to (setup_of court) docketed n.row.work) })
    ∷ answers_from court labels (docketed_then (setup_of court) docketed n.row.work) rows

-- the sheets of cases, with the reasons of each deadline
abbrev pub cases_field : CourtView → LabelsView → List ExplainedSheet → Field
cases_field court labels sheets = field (codes "cases") (array_of (map (case_value court labels) sheets))

-- the calendars of the chosen judges, with the bookings that are chosen and the numbers of their motions, in the order of the
-- court's file
abbrev pub calendars_field : CourtView → LabelsView → Choice → (docketed : Rows) → Field
calendars_field court labels choice docketed =
    field (codes "calendars") (array_of (map (calendar_value court labels) (map (numbered_calendar labels.moved) (chosen_calendars (setup_of court) docketed choice))))

-- what is docketed after all rows
abbrev pub docketed_by : CourtView → List NumberedRow → Rows
docketed_by court rows = docketed_after (setup_of court) (opening_rows (setup_of court)) (rows_of rows)

-- of a court and all rows, with these sheets: the calendars are those after the last row
abbrev pub document_fields : CourtView → LabelsView → Choice → List NumberedRow → List ExplainedSheet → List Field
document_fields court labels choice rows sheets =
    field (codes "court") (court_value court)
    ∷ field (codes "answers") (array_of (answers_from court labels (opening_rows (setup_of court)) rows))
    ∷ cases_field court labels sheets
    ∷ calendars_field court labels choice (docketed_by court rows)
    ∷ []

unfoldable pub document_value : CourtView → LabelsView → Choice → List NumberedRow → List ExplainedSheet → Json
document_value court labels choice rows sheets = object_of (document_fields court labels choice rows sheets)

-- the sheets of the chosen cases after all rows, by the cases' numbers, with the numbers of deadlines and motions and with the
-- reasons of a derivation of what is shown of each deadline, by the days that are docketed
abbrev pub AreSheetsAfter : CourtView → LabelsView → Choice → List NumberedRow → List ExplainedSheet → Type 0
AreSheetsAfter court labels choice rows sheets =
    AreExplained (docketed_by court rows).days court.clock labels.doubtful (map (numbered_sheet labels.moved) (chosen_sheets (setup_of court) (docketed_by court rows) choice)) sheets

-- the text is one line of JSON, without spaces, that reads as that value
pub record IsJsonText (value : Json) (text : List ℕ) : Type 0 where
  pub line : text ≡ print (json_tokens value) ++ 10 ∷ []
  pub reads : document (print (json_tokens value)) ≡ Some value
  pub utf8 : IsUtf8 (print (json_tokens value))

-- the text is that of the court and all rows, with the sheets of the chosen cases
pub record IsDocketJson (court : CourtView) (labels : LabelsView) (choice : Choice) (rows : List NumberedRow) (text : List ℕ) : Type 0 where
  pub sheets : List ExplainedSheet
  pub explained : AreSheetsAfter court labels choice rows sheets
  pub json : IsJsonText (document_value court labels choice rows sheets) text
