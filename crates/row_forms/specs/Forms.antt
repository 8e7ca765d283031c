-- What rows ask for, by their forms.
pub mod Periods
pub mod Settings
pub mod Table
use Rattle.std.specs.Prelude.{◌≡◌, ◌==◌, not, ℕ, false, List, [], ◌∷◌, length, Option, Some, None, Result, Ok, Err, if◌then◌else◌}
use Rattle.std.specs.Option.{ok_or}
use Rattle.court_clock.specs.declared.direction.Direction.TheVariants.{After}
use Rattle.court_clock.specs.Words.{minute_of_text}
use Rattle.rule6.specs.declared.timeliness.Act.{Act}
use Rattle.rule_periods.specs.declared.mark.Mark.TheVariants.{Plain}
use Rattle.rule_periods.specs.declared.period.Length.{Length}
use Rattle.rule_periods.specs.declared.period.Length.TheVariants.{ToDay, ToTime}
use Rattle.rule_periods.specs.declared.period.Period.{Period}
use Rattle.rule_periods.specs.declared.period.Period.TheVariants.{Entered}
use Rattle.rule_periods.specs.Words.{is_order, is_set}
use Rattle.docket_rows.specs.declared.command.Command.TheVariants as command
use Rattle.docket_rows.specs.declared.fact.Fact.TheVariants.{Ended, Resumed, Closed, Reopened, Ruled, Assigned, Titled, Labelled}
use Rattle.docket_rows.specs.declared.query.Query.TheVariants as query
use Rattle.row_forms.specs.declared.fault.RowCause.{RowCause}
use Rattle.row_forms.specs.declared.fault.RowCause.TheVariants.{UnknownCommand, WrongCount}
use Rattle.row_forms.specs.declared.forms.table.Form.{Form}
use Rattle.row_forms.specs.declared.forms.table.Form.TheVariants.{Open, Start, File, Extend, Motion, Book, Move, Cancel, Holiday, Inaccessible, Compute, Sheet, Calendar, Set, End, Resume, Close, Reopen, Reset, Rule, Assign, Title, Label}
use Rattle.row_forms.specs.declared.row.Work.{Work}
use Rattle.row_forms.specs.declared.row.Work.TheVariants.{Command, Query}
use Rattle.row_forms.specs.Columns.{◌>>=◌, column, in_column, day_in, number_in}
use Rattle.row_forms.specs.Fields.Choices.{closing_of, counted_of, ending_of, is_so, list_of, means_of, ruling_of}
use Rattle.row_forms.specs.Fields.Grants.{grant_of, need_of, order_dated, reset_to}
use Rattle.row_forms.specs.Fields.Period.{act_of}
use Rattle.row_forms.specs.Fields.Texts.{text_length}
use Rattle.row_forms.specs.Fields.Times.{day_if_given, ending_minute, minute_or_midnight}
use Rattle.row_forms.specs.CourtNames.{CourtNames, number_if_named, number_named, office_names}
use Rattle.row_forms.specs.Forms.Periods.{measured_from}
use Rattle.row_forms.specs.Forms.Settings.{setting_in}
use Rattle.row_forms.specs.Forms.Table.{columns_of_form, form_of, office_form_of}

-- a row of `open`
abbrev pub open_row : List (List ℕ) → Result Work RowCause
open_row fields = do
  case ← number_in fields 3
  filed ← day_in fields 4
  Ok (Command (command.OpenCase case filed))

-- a row of `start`
abbrev pub start_row : CourtNames → List (List ℕ) → Result Work RowCause
start_row names fields = do
  case ← number_in fields 3
  m ← measured_from names fields 4
  Ok (Command (command.Start case m.period m.event m.second m.service))

-- a row of `file`
abbrev pub file_row : List (List ℕ) → Result Work RowCause
file_row fields = do
  case ← number_in fields 3
  deadline ← number_in fields 4
  day ← day_in fields 5
  minute ← in_column 6 (minute_of_text (column fields 6))
  means ← in_column 7 (means_of (column fields 7))
  Ok (Command (command.FileAct case deadline (record { day = day; minute = minute; means = means })))

-- a row of `extend`
abbrev pub extend_row : List (List ℕ) → Result Work RowCause
extend_row fields = do
  case ← number_in fields 3
  deadline ← number_in fields 4
  grant ← in_column 5 (grant_of (column fields 5))
  day ← day_in fields 6
  minute ← in_column 7 (minute_of_text (column fields 7))
  motion ← in_column 8 (is_so (column fields 8))
  cause ← in_column 9 (is_so (column fields 9))
  neglect ← in_column 10 (is_so (column fields 10))
  Ok (Command (command.Extend case deadline (record { grant = grant; asked = record { day = day; minute = minute }; motion = motion; cause = cause; neglect = neglect })))

-- a row of `motion`
abbrev pub motion_row : List (List ℕ) → Result Work RowCause
motion_row fields = do
  case ← number_in fields 3
  served ← day_in fields 4
  need ← in_column 5 (need_of (column fields 5))
  Ok (Command (command.Motion case served need))

-- a row of `cancel`
abbrev pub cancel_row : List (List ℕ) → Result Work RowCause
cancel_row fields = do
  case ← number_in fields 3
  motion ← number_in fields 4
  Ok (Command (command.Cancel case motion))

-- a row of `holiday`
abbrev pub holiday_row : List (List ℕ) → Result Work RowCause
holiday_row fields = do
  day ← day_in fields 3
  list ← in_column 4 (list_of (column fields 4))
  Ok (Command (command.Holiday day list))

-- a row of `inaccessible`
abbrev pub inaccessible_row : List (List ℕ) → Result Work RowCause
inaccessible_row fields = do
  day ← day_in fields 3
  from ← in_column 4 (minute_of_text (column fields 4))
  to ← in_column 5 (ending_minute (column fields 5))
  Ok (Command (command.Inaccessible day from to))

-- a row of `compute`
abbrev pub compute_row : CourtNames → List (List ℕ) → Result Work RowCause
compute_row names fields = do
  m ← measured_from names fields 3
  Ok (Query (query.Compute m.period m.event m.second m.service))

-- a row of `calendar`: any text is read as one judge's name
abbrev pub calendar_row : CourtNames → List (List ℕ) → Result Work RowCause
calendar_row names fields = do
  day ← day_in fields 4
  Ok (Query (query.JudgeDay (number_named names.judges (column fields 3)) day))

-- an order sets the end to a day, or where a field says a time to that minute of it
unfoldable pub set_length : (time : List ℕ) → Length
set_length [] = ToDay
set_length (b ∷ time) = ToTime

-- the period of an act that an order wants by the event
abbrev pub set_to : Length → Act → Period
set_to length act = Entered (record { length = length; direction = After; act = act; served = false; mark = Plain })

-- a row of `set`: an order sets a deadline for a day, or for a time of it
abbrev pub set_row : List (List ℕ) → Result Work RowCause
set_row fields = do
  case ← number_in fields 3
  day ← day_in fields 4
  minute ← in_column 5 (minute_or_midnight (column fields 5))
  act ← in_column 6 (act_of (column fields 6))
  Ok (Command (command.Start case (set_to (set_length (column fields 5)) act) (record { day = day; minute = minute }) None None))

-- a row of `reset`: an order sets another end for a deadline
abbrev pub reset_row : List (List ℕ) → Result Work RowCause
reset_row fields = do
  case ← number_in fields 3
  deadline ← number_in fields 4
  day ← day_in fields 5
  minute ← in_column 6 (minute_or_midnight (column fields 6))
  dated ← day_in fields 7
  Ok (Command (command.Extend case deadline (order_dated dated (reset_to (column fields 6) (record { day = day; minute = minute })))))

-- a row of `end`: a deadline is due no more
abbrev pub end_row : List (List ℕ) → Result Work RowCause
end_row fields = do
  case ← number_in fields 3
  deadline ← number_in fields 4
  why ← in_column 5 (ending_of (column fields 5))
  dated ← day_in fields 6
  Ok (Command (command.Fact case (Ended deadline why dated)))

-- a row of `resume`: a deadline that was ended is due again, as before or anew from a day
abbrev pub resume_row : List (List ℕ) → Result Work RowCause
resume_row fields = do
  case ← number_in fields 3
  deadline ← number_in fields 4
  day ← in_column 5 (day_if_given (column fields 5))
  dated ← day_in fields 6
  Ok (Command (command.Fact case (Resumed deadline day dated)))

-- a row of `close`: a case is closed
abbrev pub close_row : List (List ℕ) → Result Work RowCause
close_row fields = do
  case ← number_in fields 3
  why ← in_column 4 (closing_of (column fields 4))
  dated ← day_in fields 5
  Ok (Command (command.Fact case (Closed why dated)))

-- a row of `reopen`: a case that was closed is open again
abbrev pub reopen_row : List (List ℕ) → Result Work RowCause
reopen_row fields = do
  case ← number_in fields 3
  dated ← day_in fields 4
  Ok (Command (command.Fact case (Reopened dated)))

-- a row of `rule`: a motion is ruled on
abbrev pub rule_row : List (List ℕ) → Result Work RowCause
rule_row fields = do
  case ← number_in fields 3
  motion ← number_in fields 4
  how ← in_column 5 (ruling_of (column fields 5))
  dated ← day_in fields 6
  Ok (Command (command.Fact case (Ruled motion how dated)))

-- a row of `assign`: a judge has a case, and it may be referred to another; any texts are read as the judges' names
abbrev pub assign_row : CourtNames → List (List ℕ) → Result Work RowCause
assign_row names fields = do
  case ← number_in fields 3
  dated ← day_in fields 6
  Ok (Command (command.Fact case (Assigned (number_named names.judges (column fields 4)) (number_if_named names.judges (column fields 5)) dated)))

-- a row of `title`: what a case is called; the text isn't part of what is asked for
abbrev pub title_row : List (List ℕ) → Result Work RowCause
title_row fields = do
  case ← number_in fields 3
  _ ← in_column 4 (text_length (column fields 4))
  Ok (Command (command.Fact case Titled))

-- a row of `label`: what a deadline or a motion is called, likewise
abbrev pub label_row : List (List ℕ) → Result Work RowCause
label_row fields = do
  case ← number_in fields 3
  kind ← in_column 4 (counted_of (column fields 4))
  number ← number_in fields 5
  _ ← in_column 6 (text_length (column fields 6))
  Ok (Command (command.Fact case (Labelled kind number)))

-- what the fields of a row of this form ask for
abbrev pub fields_as : CourtNames → Form → List (List ℕ) → Result Work RowCause
fields_as names Open fields = open_row fields
fields_as names Start fields = start_row names fields
fields_as names File fields = file_row fields
fields_as names Extend fields = extend_row fields
fields_as names Motion fields = motion_row fields
fields_as names Book fields = do
  setting ← setting_in names.judges names.rooms fields
  Ok (Command (command.Book setting))
fields_as names Move fields = do
  setting ← setting_in names.judges names.rooms fields
  Ok (Command (command.MoveHearing setting))
fields_as names Cancel fields = cancel_row fields
fields_as names Holiday fields = holiday_row fields
fields_as names Inaccessible fields = inaccessible_row fields
fields_as names Compute fields = compute_row names fields
fields_as names Sheet fields = do
  case ← number_in fields 3
  Ok (Query (query.Sheet case))
fields_as names Calendar fields = calendar_row names fields
fields_as names Set fields = set_row fields
fields_as names Reset fields = reset_row fields
fields_as names End fields = end_row fields
fields_as names Resume fields = resume_row fields
fields_as names Close fields = close_row fields
fields_as names Reopen fields = reopen_row fields
fields_as names Rule fields = rule_row fields
fields_as names Assign fields = assign_row names fields
fields_as names Title fields = title_row fields
fields_as names Label fields = label_row fields

-- what a row of this form asks for, which has a field for each column
abbrev pub read_as : CourtNames → Form → List (List ℕ) → Result Work RowCause
read_as names form fields =
    if not (length fields == length (columns_of_form form)) then Err WrongCount else fields_as names form fields

-- what a row asks for whose command word names this form, if it names one
unfoldable pub work_as : CourtNames → Option Form → List (List ℕ) → Result Work RowCause
work_as names found fields = do
  form ← ok_or found UnknownCommand
  read_as names form fields

-- what a row of the desk asks for
unfoldable pub work_of : CourtNames → List (List ℕ) → Result Work RowCause
work_of names fields = work_as names (form_of (column fields 2)) fields

-- what a row of clerk_office asks for, which names no period so
unfoldable pub office_work_of : CourtNames → List (List ℕ) → Result Work RowCause
office_work_of names fields = work_as (office_names names) (office_form_of (column fields 2)) fields

-- the form of the rows that ask for this
abbrev pub form_asking : Work → Form
form_asking (Command (command.OpenCase case filed)) = Open
form_asking (Command (command.Start case period event second service)) = if is_set period then Set else Start
form_asking (Command (command.FileAct case deadline filing)) = File
form_asking (Command (command.Extend case deadline request)) = if is_order request.grant then Reset else Extend
form_asking (Command (command.Motion case served need)) = Motion
form_asking (Command (command.Book setting)) = Book
form_asking (Command (command.MoveHearing setting)) = Move
form_asking (Command (command.Cancel case motion)) = Cancel
form_asking (Command (command.Holiday day list)) = Holiday
form_asking (Command (command.Inaccessible day from to)) = Inaccessible
form_asking (Command (command.Fact case (Ended deadline why dated))) = End
form_asking (Command (command.Fact case (Resumed deadline day dated))) = Resume
form_asking (Command (command.Fact case (Closed why dated))) = Close
form_asking (Command (command.Fact case (Reopened dated))) = Reopen
form_asking (Command (command.Fact case (Ruled motion how dated))) = Rule
form_asking (Command (command.Fact case (Assigned judge referred dated))) = Assign
form_asking (Command (command.Fact case Titled)) = Title
form_asking (Command (command.Fact case (Labelled kind number))) = Label
form_asking (Query (query.Compute period event second service)) = Compute
form_asking (Query (query.Sheet case)) = Sheet
form_asking (Query (query.JudgeDay judge day)) = Calendar

-- What a row asks for is what its command word says, and nothing else.
abbrev pub RowsAskByTheirWords : Type 0
RowsAskByTheirWords = (names : CourtNames) (fields : List (List ℕ)) (work : Work) → work_of names fields ≡ Ok work → form_of (column fields 2) ≡ Some (form_asking work)
