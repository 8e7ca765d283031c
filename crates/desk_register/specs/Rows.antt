-- What rows leave in a journal and what they are answered, under what stands.
use Rattle.std.specs.Prelude.{◌≡◌, ℕ, ◌||◌, Bool, true, false, List, [], ◌∷◌, ◌++◌, Option, Some, None, length, map, nat_lt, option_map, if◌then◌else◌}
use Rattle.csv.specs.Writing.{default_writer, row_text}
use Rattle.case_numbers.specs.Words.{NameView, after_name, name_before, name_line}
use Rattle.docket_rows.specs.declared.answer.Answer.{Answer}
use Rattle.docket_rows.specs.declared.answer.Answer.TheVariants as answer
use Rattle.docket_rows.specs.Words.{setup_of}
use Rattle.desk_numbers.specs.declared.subjects.Found.{Found}
use Rattle.desk_session.specs.declared.outcome.Outcome.{Outcome}
use Rattle.desk_session.specs.declared.outcome.Outcome.TheVariants.{Blank, Fault, Refused, Taken}
use Rattle.row_forms.specs.declared.fault.RowCause.TheVariants.{TooManyRows}
use Rattle.office_texts.specs.declared.run.reply.Reply.{Reply}
use Rattle.office_texts.specs.declared.run.reply.Reply.TheVariants.{Made, Viewed}
use Rattle.row_forms.specs.declared.line.line.Line.{Line}
use Rattle.row_forms.specs.declared.line.line.Line.TheVariants as line
use Rattle.row_forms.specs.declared.row.Row.{Row}
use Rattle.row_forms.specs.declared.row.Work.{Work}
use Rattle.row_forms.specs.declared.row.Work.TheVariants.{Command, Query}
use Rattle.row_forms.specs.Words.{CourtNames, names_of}
use Rattle.row_forms.specs.Line.Words.{fields_read, line_read}
use Rattle.office_texts.specs.Named.Words.{named_line_of}
use Rattle.desk_register.specs.declared.standing.Standing.{Standing}
use Rattle.desk_register.specs.Called.{called_standing}
use Rattle.desk_register.specs.Cases.{cases_of}
use Rattle.desk_register.specs.declared.cause.LineCause.{LineCause}
use Rattle.desk_register.specs.declared.cause.LineCause.TheVariants.{NotFound, Row as RowFault, TooManyCases}
use Rattle.desk_register.specs.declared.cause.Unfound.{Unfound}
use Rattle.desk_register.specs.declared.subject.Named.{Named}
use Rattle.desk_register.specs.CaseLines.{Reading, opens_too_many, reading_of}
use Rattle.desk_register.specs.Entries.{most_clerks, most_rows, next_number}
use Rattle.desk_register.specs.LineCauses.{fault_told, unfound_as, unfound_there}
use Rattle.desk_register.specs.Subjects.{found_for, name_said, named_in, with_found}
use Rattle.desk_register.specs.Run.{docketed_by, reply_by_places, reply_under, run_by}

-- the row of a line that says one
abbrev pub row_in : Line → List Row
row_in line.Blank = []
row_in (line.Fault cause) = []
row_in (line.Row row) = row ∷ []

-- the rows with which entries begin
unfoldable pub rows_in : CourtNames → List (List ℕ) → List Row
rows_in names [] = []
rows_in names (entry ∷ entries) = row_in (line_read most_clerks names entry) ++ rows_in names entries

-- there is room for a row after entries, beside the room that is left for corrections
abbrev pub has_room : (kept : List (List ℕ)) → Bool
has_room kept = nat_lt (length kept) most_rows

-- a row asks a question, which changes nothing
abbrev pub asks : Work → Bool
asks (Command command) = false
asks (Query query) = true

-- What a line says after entries: where there is no room for rows a command is one too many, and a question is answered all the same.
abbrev pub within : (kept : List (List ℕ)) → Line → Line
within kept line.Blank = line.Blank
within kept (line.Fault cause) = line.Fault cause
within kept (line.Row row) = if has_room kept || asks row.work then line.Row row else line.Fault TooManyRows

-- what a row is answered, with the names that cases have by then
unfoldable pub answer_to : Standing → (kept : List (List ℕ)) → Row → List ℕ
answer_to under kept row = named_line_of under.court (cases_of under kept).named (next_number kept) row.clerk (reply_under under (run_by under kept) (next_number kept) row.work)

-- its entry: the row as CSV, from its fields, and then the answer
abbrev pub entry_of : Standing → (kept : List (List ℕ)) → (fields : List (List ℕ)) → Row → List ℕ
entry_of under kept fields row = row_text default_writer fields ++ answer_to under kept row

-- what a line leaves that says this
abbrev pub left_of : Standing → (kept : List (List ℕ)) → (fields : List (List ℕ)) → Line → List (List ℕ)
left_of under kept fields line.Blank = []
left_of under kept fields (line.Fault cause) = []
left_of under kept fields (line.Row row) = entry_of under kept fields row ∷ []

-- what it is answered, where these are its bytes
abbrev pub told_of : Standing → (kept : List (List ℕ)) → (bytes : List ℕ) → Line → List ℕ
told_of under kept bytes line.Blank = []
told_of under kept bytes (line.Fault cause) = fault_told (next_number kept) bytes (RowFault cause)
told_of under kept bytes (line.Row row) = answer_to under kept row

-- what a plain line leaves: nothing where there is no room for rows
unfoldable pub plain_leaves : Standing → (kept : List (List ℕ)) → (line : List ℕ) → List (List ℕ)
plain_leaves under kept line =
    if has_room kept then left_of under kept (fields_read line) (within kept (line_read most_clerks (names_of under.court) line)) else []

-- what a line is answered for which this plain line stands
unfoldable pub plain_answers : Standing → (kept : List (List ℕ)) → (line plain : List ℕ) → List ℕ
plain_answers under kept line plain = told_of under kept line (within kept (line_read most_clerks (names_of under.court) plain))

-- entries with the line of a new name before them
abbrev pub with_name : Option NameView → (entries : List (List ℕ)) → List (List ℕ)
with_name name entries = map (λ entry. name_line name ++ entry) entries

-- how a line is read by its case alone, after entries
abbrev pub cased_at : Standing → (kept : List (List ℕ)) → (line : List ℕ) → Reading
cased_at under kept line = reading_of (names_of under.court) (cases_of under kept) line

-- what has that name in what entries docketed, which a plain text says
abbrev pub found_at : Standing → (kept : List (List ℕ)) → (text : List ℕ) → Named → Found
found_at under kept text named = found_for (setup_of under.court) (docketed_by under kept) (run_by under kept).numbers (called_standing under kept) named (name_said text named)

-- a plain text, with a number in place of what it names, where just one is so named
abbrev pub found_text : Standing → (kept : List (List ℕ)) → (text : List ℕ) → Option Named → List ℕ
found_text under kept text None = text
found_text under kept text (Some named) = with_found named.at text (found_at under kept text named)

abbrev pub with_subject : Standing → (kept : List (List ℕ)) → (cased : Reading) → Reading
with_subject under kept cased = record { text = found_text under kept cased.text (named_in (names_of under.court) cased.text); name = cased.name }

-- how a line is read after entries: with the number of its case, and with that of the deadline or the motion that it names
abbrev pub reading_at : Standing → (kept : List (List ℕ)) → (line : List ℕ) → Reading
reading_at under kept line = with_subject under kept (cased_at under kept line)

-- a line is read after entries: this is what its plain line says and its new name, and where it says a row these are its fields
pub record IsReadAt (under : Standing) (kept : List (List ℕ)) (bytes : List ℕ) (fields : List (List ℕ)) (read : Line × Option NameView) : Type 0 where
  pub said : read.0 ≡ line_read most_clerks (names_of under.court) (reading_at under kept bytes).text
  pub name : read.1 ≡ (reading_at under kept bytes).name
  pub fields_are : (row : Row) → read.0 ≡ line.Row row → fields ≡ fields_read (reading_at under kept bytes).text

-- why the deadline or the motion isn't found that a plain text names, if it isn't
abbrev pub unfound_of : Standing → (kept : List (List ℕ)) → (text : List ℕ) → Option Named → Option Unfound
unfound_of under kept text None = None
unfound_of under kept text (Some named) = unfound_there named.at (unfound_as named.name (found_at under kept text named))

abbrev pub unfound_at : Standing → (kept : List (List ℕ)) → (line : List ℕ) → Option Unfound
unfound_at under kept line = let text = (cased_at under kept line).text in unfound_of under kept text (named_in (names_of under.court) text)

-- after entries, a line opens a case too many
abbrev pub too_many_at : Standing → (kept : List (List ℕ)) → (line : List ℕ) → Bool
too_many_at under kept line = opens_too_many (names_of under.court) (cases_of under kept) line

-- what else is wrong with a line than what its plain line says
abbrev pub special_at : Standing → (kept : List (List ℕ)) → (line : List ℕ) → Option LineCause
special_at under kept line = if too_many_at under kept line then Some TooManyCases else option_map NotFound (unfound_at under kept line)

-- A line leaves what the plain line leaves that stands for it, after the line of its name where that is new; and it is
-- answered as that one is, except where it opens a case too many, or names a deadline or a motion that isn't found.
unfoldable pub leaves : Standing → (kept : List (List ℕ)) → (line : List ℕ) → List (List ℕ)
leaves under kept line = let reading = reading_at under kept line in with_name reading.name (plain_leaves under kept reading.text)

abbrev pub told_or : Standing → (kept : List (List ℕ)) → (line : List ℕ) → Option LineCause → (answer : List ℕ) → List ℕ
told_or under kept line None answer = answer
told_or under kept line (Some cause) answer = fault_told (next_number kept) line cause

unfoldable pub answers : Standing → (kept : List (List ℕ)) → (line : List ℕ) → List ℕ
answers under kept line = told_or under kept line (special_at under kept line) (plain_answers under kept line (reading_at under kept line).text)

-- what comes of a row of which this is the docket's answer: it is refused, or it is done
abbrev pub came_of : Answer → Outcome
came_of answer.Opened = Taken
came_of (answer.Started number shown) = Taken
came_of (answer.Filed timely) = Taken
came_of (answer.Extended shown) = Taken
came_of (answer.Reset shown) = Taken
came_of (answer.MotionEntered number) = Taken
came_of answer.Booked = Taken
came_of answer.Moved = Taken
came_of answer.Cancelled = Taken
came_of answer.HolidayEntered = Taken
came_of answer.OutageEntered = Taken
came_of answer.Ended = Taken
came_of answer.Closed = Taken
came_of answer.Reopened = Taken
came_of (answer.Ruled day) = Taken
came_of answer.Assigned = Taken
came_of answer.Titled = Taken
came_of answer.Labelled = Taken
came_of (answer.Resumed shown) = Taken
came_of (answer.Refused refusal) = Refused

-- a question changes nothing, whatever it is answered
abbrev pub outcome_by : Reply → Outcome
outcome_by (Made answered) = came_of answered
outcome_by (Viewed view) = Taken

-- what comes of a line that says this
abbrev pub outcome_of : Standing → (kept : List (List ℕ)) → Line → Outcome
outcome_of under kept line.Blank = Blank
outcome_of under kept (line.Fault cause) = Fault
outcome_of under kept (line.Row row) = outcome_by (reply_by_places under (docketed_by under kept) (run_by under kept).numbers row.work)

unfoldable pub outcome : Standing → (kept : List (List ℕ)) → (line : List ℕ) → Outcome
outcome under kept line = outcome_of under kept (within kept (line_read most_clerks (names_of under.court) (reading_at under kept line).text))

-- what a plain line leaves that was kept once, and what it is answered: whether there was room for it was asked then
unfoldable pub kept_leaves : Standing → (kept : List (List ℕ)) → (line : List ℕ) → List (List ℕ)
kept_leaves under kept line = left_of under kept (fields_read line) (line_read most_clerks (names_of under.court) line)

unfoldable pub kept_answers : Standing → (kept : List (List ℕ)) → (line : List ℕ) → List ℕ
kept_answers under kept line = told_of under kept line (line_read most_clerks (names_of under.court) line)

-- what an entry leaves whose row is decided again, with its name
abbrev pub left_again : Standing → (kept : List (List ℕ)) → (entry : List ℕ) → List (List ℕ)
left_again under kept entry = with_name (name_before entry) (kept_leaves under kept (after_name entry))

-- An entry may follow others under what stands: decided again, its row leaves that entry.
abbrev pub follows : Standing → (kept : List (List ℕ)) → (entry : List ℕ) → Type 0
follows under kept entry = left_again under kept entry ≡ entry ∷ []
