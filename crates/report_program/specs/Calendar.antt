-- What is written of a docket after all its rows.
use Rattle.std.specs.Prelude.{◌≡◌, ℕ, ℤ, Bool, true, false, not, List, [], ◌++◌, Option, Some, None, Result, Ok, Err, codes, length, map, string_bytes, IsErrAnd, IsOkAnd, IsSome}
use Rattle.std.specs.declared.alloc.Global.{Global}
use Rattle.std.specs.Prelude.{String}
use Rattle.office_texts.specs.Names.Words.{called_text}
use Rattle.office_texts.specs.declared.names.called.CaseCalled.{CaseCalled}
use Rattle.case_numbers.specs.Words.{case_text}
use Rattle.case_numbers.specs.declared.names.NamedCase.{NamedCase}
use Rattle.desk_numbers.specs.Words.{numbered_sheet, numbered_view}
use Rattle.court_clock.specs.Words.{day_text}
use Rattle.court_days.specs.Words.{CourtView, file_of}
use Rattle.docket_rows.specs.declared.query.Query.TheVariants as query
use Rattle.docket_rows.specs.declared.view.View.TheVariants as view
use Rattle.docket_rows.specs.Words.{CourtSetup, Rows, opening_rows, setup_of, view_of}
use Rattle.docket_selection.specs.declared.choice.Choice.{Choice}
use Rattle.docket_selection.specs.declared.item.DueItem.{DueItem}
use Rattle.docket_selection.specs.declared.pending.PendingItem.{PendingItem}
use Rattle.docket_selection.specs.declared.pending.PendingKind.{PendingKind}
use Rattle.docket_selection.specs.declared.pending.PendingKind.TheVariants.{Cases, Motions}
use Rattle.docket_selection.specs.Words.{IsDue, all_left_out, all_pending, chosen_calendars, chosen_sheets, day_bookings, week_days}
use Rattle.docket_selection.specs.declared.changes.change.RowChange.{RowChange}
use Rattle.content_lines.specs.Words.{HasShortLines}
use Rattle.report_texts.specs.Words.{LabelsView, case_page_text, due_text, labelled_sheet, left_out_line, numbered_calendar, numbered_day, numbered_item, numbered_pending, pending_csv, pending_text, week_text}
use Rattle.report_ics.specs.Words.{appointments_of, icalendar_text}
use Rattle.docket_selection.specs.declared.explained.explained.ExplainedSheet.{ExplainedSheet}
use Rattle.docket_selection.specs.Explained.Words.{AreExplained}
use Rattle.report_page.specs.Words.{page_text, pending_page}
use Rattle.row_forms.specs.declared.numbered.NumberedRow.{NumberedRow}
use Rattle.row_forms.specs.Words.{numbered_from, rows_of}
use Rattle.office_texts.specs.Named.Words.{named_reply}
use Rattle.office_texts.specs.Run.Words.{docketed_after}
use Rattle.office_texts.specs.declared.run.reply.Reply.{Reply}
use Rattle.office_texts.specs.declared.run.reply.Reply.TheVariants.{Viewed}
use Rattle.report_json.specs.Words.{AreAnswerLines, IsDocketJson}
use Rattle.report_sql.specs.Words.{script_text}
use Rattle.program_runs.specs.Words.{Input}
use Rattle.report_program.specs.declared.asked.Asked.{Asked}
use Rattle.report_program.specs.declared.chosen.Chosen.{Chosen}
use Rattle.report_program.specs.declared.chosen.Chosen.TheVariants.{Json, Lines, Listed, Sql}
use Rattle.report_program.specs.declared.chosen.Form.{Form}
use Rattle.report_program.specs.declared.chosen.Form.TheVariants as form
use Rattle.report_program.specs.declared.chosen.Listing.{Listing}
use Rattle.report_program.specs.declared.chosen.Listing.TheVariants.{Due, Ics, Page, Pending, Sheet, Week}
use Rattle.report_program.specs.declared.chosen.Listing.TheVariants as listing
use Rattle.report_program.specs.declared.chosen.Missing.{Missing}
use Rattle.report_program.specs.declared.chosen.Missing.TheVariants.{Backwards, Case, Closed, Day, Judge}
use Rattle.report_program.specs.Appointments.{numbered_appointment}
use Rattle.report_program.specs.Changes.{changes_made, lost_made}
use Rattle.report_program.specs.Opened.{found_of}
use Rattle.report_program.specs.Past.{PastView, changes_since, lost_since, no_past}

-- the list of what is due, with the numbers of deadlines and motions
pub record IsNumberedDue (setup : CourtSetup) (docketed : Rows) (labels : LabelsView) (choice : Choice) (list : List DueItem) : Type 0 where
  pub items : List DueItem
  pub due : IsDue setup docketed labels.doubtful choice items
  pub numbers : list ≡ map (numbered_item labels.moved) items

-- the text of what is due: a line for each item of the list of what is due, and how many deadlines aren't there since they are ended
pub record IsDueText (court : CourtView) (labels : LabelsView) (docketed : Rows) (choice : Choice) (text : List ℕ) : Type 0 where
  pub list : List DueItem
  pub due : IsNumberedDue (setup_of court) docketed labels choice list
  pub lines : text ≡ due_text court labels choice list ++ left_out_line (length (all_left_out (setup_of court) docketed choice))

-- the text of the week of the judge in which the day is: of the bookings that the docket shows on each of its days
abbrev pub week_text_of : CourtView → LabelsView → (docketed : Rows) → (judge : ℕ) → (day : ℤ) → List ℕ
week_text_of court labels docketed judge day =
    week_text court labels judge (map (numbered_day labels.moved) (map (day_bookings (setup_of court) docketed judge) (week_days day)))

-- The page of what is due, of the chosen judges' bookings, and of the sheets of the chosen cases with the reasons of each
-- deadline, by the days that are docketed.
pub record IsPage (court : CourtView) (labels : LabelsView) (docketed : Rows) (choice : Choice) (text : List ℕ) : Type 0 where
  pub list : List DueItem
  pub due : IsNumberedDue (setup_of court) docketed labels choice list
  pub sheets : List ExplainedSheet
  pub explained : AreExplained docketed.days court.clock labels.doubtful (map (numbered_sheet labels.moved) (chosen_sheets (setup_of court) docketed choice)) sheets
  pub page : text ≡ page_text court docketed.days labels choice list (map (numbered_calendar labels.moved) (chosen_calendars (setup_of court) docketed choice)) sheets

-- the same, of the cases that aren't before the judge
abbrev pub of_other_cases : Choice → Choice
of_other_cases choice = record choice { elsewhere = true }

-- The text of a calendar: an event for each item of the list of what is chosen, for each deadline and each chosen hearing that is off
-- by the changes that were made, as the chosen judge saw them, and for each chosen deadline that no row starts any more.
pub record IsIcsText (court : CourtView) (labels : LabelsView) (docketed : Rows) (changes : List RowChange) (lost : List DueItem) (corrections : ℕ) (choice : Choice) (stamp : ℤ) (text : List ℕ) : Type 0 where
  pub items : List DueItem
  pub chosen : IsDue (setup_of court) docketed labels.doubtful choice items
  pub others : List DueItem
  pub of_others : IsSome choice.judge → IsDue (setup_of court) docketed labels.doubtful (of_other_cases choice) others
  pub lines : text ≡ icalendar_text court labels stamp (map (numbered_appointment labels.moved corrections) (appointments_of choice (record { judge = choice.judge; changes = changes }) items others lost))
  pub short : HasShortLines text

-- a sheet with what rows call things, and any other reply as rows get it
abbrev pub shown_called : CourtView → LabelsView → Reply → List ℕ
shown_called court labels (Viewed (view.Sheet sheet)) = codes "sheet\n" ++ labelled_sheet court labels sheet
shown_called court labels reply = named_reply court labels.cases reply

-- the text of a case's sheet, as a row that asks for it is answered, with what rows call the case, its deadlines and its motions
abbrev pub sheet_text_of : CourtView → LabelsView → (docketed : Rows) → (case : ℕ) → List ℕ
sheet_text_of court labels docketed case = shown_called court labels (Viewed (numbered_view labels.moved (view_of (setup_of court) docketed (query.Sheet case))))

-- the page of a sheet, and any other reply as rows get it
abbrev pub page_called : CourtView → LabelsView → Reply → List ℕ
page_called court labels (Viewed (view.Sheet sheet)) = case_page_text court labels sheet
page_called court labels reply = named_reply court labels.cases reply

-- one page of a case, up to the entries of its log, by what a row that asks for its sheet is answered
abbrev pub case_text_of : CourtView → LabelsView → (docketed : Rows) → (case : ℕ) → List ℕ
case_text_of court labels docketed case = page_called court labels (Viewed (numbered_view labels.moved (view_of (setup_of court) docketed (query.Sheet case))))

-- what has been pending for long on a day, with the numbers of motions
abbrev pub numbered_all : CourtView → LabelsView → (docketed : Rows) → PendingKind → (day : ℤ) → List PendingItem
numbered_all court labels docketed kind day = map (numbered_pending labels.moved) (all_pending (setup_of court) docketed kind day)

-- these motions and these cases as a text, as a page, or as a table for other programs
abbrev pub pending_form : CourtView → LabelsView → Form → (day : ℤ) → (motions cases : List PendingItem) → List ℕ
pending_form court labels form.Text day motions cases = pending_text court labels day motions cases
pending_form court labels form.Page day motions cases = pending_page court labels day motions cases
pending_form court labels form.Csv day motions cases = pending_csv court labels motions cases

-- what has been pending for long on the day, written so
abbrev pub pending_text_of : CourtView → LabelsView → (docketed : Rows) → (day : ℤ) → Form → List ℕ
pending_text_of court labels docketed day form =
    pending_form court labels form day (numbered_all court labels docketed Motions day) (numbered_all court labels docketed Cases day)

-- the text of what is shown of the docket
abbrev pub IsListing : CourtView → LabelsView → (docketed : Rows) → List RowChange → (lost : List DueItem) → (corrections : ℕ) → Listing → List ℕ → Type 0
IsListing court labels docketed changes lost corrections (Due choice) text = IsDueText court labels docketed choice text
IsListing court labels docketed changes lost corrections (Week judge day) text = text ≡ week_text_of court labels docketed judge day
IsListing court labels docketed changes lost corrections (Page choice) text = IsPage court labels docketed choice text
IsListing court labels docketed changes lost corrections (Ics choice stamp) text = IsIcsText court labels docketed changes lost corrections choice stamp text
IsListing court labels docketed changes lost corrections (Sheet case) text = text ≡ sheet_text_of court labels docketed case
IsListing court labels docketed changes lost corrections (Pending day form) text = text ≡ pending_text_of court labels docketed day form
IsListing court labels docketed changes lost corrections (listing.Case case) text = text ≡ case_text_of court labels docketed case

-- what is docketed after all rows, what these changed, and the deadlines that they start no more, after what came of corrections
abbrev pub docketed_by : CourtView → List NumberedRow → Rows
docketed_by court rows = docketed_after (setup_of court) (opening_rows (setup_of court)) (rows_of rows)

abbrev pub changes_by : CourtView → PastView → List NumberedRow → List RowChange
changes_by court past rows = changes_since past ++ changes_made (setup_of court) (opening_rows (setup_of court)) rows

abbrev pub lost_of : CourtView → PastView → List NumberedRow → List DueItem
lost_of court past rows = lost_since past ++ lost_made past.given (setup_of court) (opening_rows (setup_of court)) rows

-- it is a calendar for calendar programs, which rests on what rows changed, and not on the docket alone
abbrev pub is_calendar : Listing → Bool
is_calendar (Ics choice stamp) = true
is_calendar other = false

-- what is chosen rests on the docket alone
abbrev pub is_of_docket : Chosen → Bool
is_of_docket (Listed listing) = not (is_calendar listing)
is_of_docket other = false

-- so does what is found of what was asked for, also where it isn't there
abbrev pub rests_on_docket : Result Chosen Missing → Bool
rests_on_docket (Ok chosen) = is_of_docket chosen
rests_on_docket (Err missing) = true

-- the text of what is chosen
abbrev pub IsTextOf : CourtView → LabelsView → PastView → List NumberedRow → Chosen → List ℕ → Type 0
IsTextOf court labels past rows (Listed listing) text = IsListing court labels (docketed_by court rows) (changes_by court past rows) (lost_of court past rows) past.corrections listing text
IsTextOf court labels past rows (Json choice) text = IsDocketJson court labels choice rows text
IsTextOf court labels past rows Lines text = AreAnswerLines court labels rows text
IsTextOf court labels past rows Sql text = text ≡ script_text court labels rows

-- the text of a word, where it was given
abbrev pub word_given : Option (String Global) → List ℕ
word_given (Some word) = string_bytes word
word_given None = []

-- what a case was called, where one was given
abbrev pub called_given : Option CaseCalled → List ℕ
called_given (Some called) = called_text called
called_given None = []

-- the line of a case of which there is no such name
abbrev pub no_case : Option CaseCalled → List ℕ
no_case called = codes "docket: no case is named '" ++ called_given called ++ codes "'\n"

-- the line of a judge that the court's file doesn't name
abbrev pub no_judge : Option (String Global) → List ℕ
no_judge word = codes "docket: no judge is named '" ++ word_given word ++ codes "' in the court's file\n"

-- that the court's file doesn't cover a day, from which one it does, and to which
unfoldable pub uncovered_words : (day : ℤ) → List ℕ
uncovered_words day = codes "docket: " ++ day_text day ++ codes " isn't covered"

unfoldable pub from_words : (from : ℤ) → List ℕ
from_words from = codes ": the court's file covers " ++ day_text from

unfoldable pub to_words : (to : ℤ) → List ℕ
to_words to = codes " to " ++ day_text to ++ codes "\n"

-- the line of a day that the court's file doesn't cover
abbrev pub not_covered : (day from to : ℤ) → List ℕ
not_covered day from to = uncovered_words day ++ from_words from ++ to_words to

-- the line of days of which the last comes before the first
unfoldable pub last_words : (to : ℤ) → List ℕ
last_words to = codes "docket: the last day, " ++ day_text to

unfoldable pub first_words : (from : ℤ) → List ℕ
first_words from = codes ", is before the first, " ++ day_text from ++ codes "\n"

abbrev pub backwards_line : (from to : ℤ) → List ℕ
backwards_line from to = last_words to ++ first_words from

-- the line of a case that isn't open
abbrev pub closed_line : List NamedCase → (case : ℕ) → List ℕ
closed_line named case = codes "docket: case " ++ case_text named case ++ codes " isn't open: no row has opened it\n"

-- the line that says what isn't there
abbrev pub missing_line : CourtView → List NamedCase → Asked → Missing → List ℕ
missing_line court named asked Case = no_case asked.case
missing_line court named asked Judge = no_judge asked.judge
missing_line court named asked (Day day) = not_covered day court.days.from court.days.to
missing_line court named asked (Backwards from to) = backwards_line from to
missing_line court named asked (Closed case) = closed_line named case

-- the text of what is asked for, where this is what cases, deadlines, motions and holidays are called
abbrev pub IsCalendar : Asked → CourtView → LabelsView → PastView → List NumberedRow → List ℕ → Type 0
IsCalendar asked court labels past rows text = IsOkAnd (found_of court labels.cases rows asked) (λ chosen. IsTextOf court labels past rows chosen text)

-- the line that says what isn't there of it
abbrev pub IsMissing : Asked → CourtView → List NamedCase → List NumberedRow → List ℕ → Type 0
IsMissing asked court named rows line = IsErrAnd (found_of court named rows asked) (λ missing. line ≡ missing_line court named asked missing)

-- The text of an input, in the court whose file it has. Its rows have the numbers 1, 2 and so on.
pub record IsCalendarOf (asked : Asked) (labels : LabelsView) (input : Input) (text : List ℕ) : Type 0 where
  pub court : CourtView
  pub is_court : file_of court ≡ input.file
  pub is_calendar : IsCalendar asked court labels no_past (numbered_from 1 input.rows) text

-- the line that says what isn't there, in that court
pub record IsMissingOf (asked : Asked) (input : Input) (line : List ℕ) : Type 0 where
  pub court : CourtView
  pub is_court : file_of court ≡ input.file
  pub is_missing : IsMissing asked court [] (numbered_from 1 input.rows) line
