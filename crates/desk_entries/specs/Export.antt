-- The rows of the docket that stands, as they are written for other programs: no row that is struck, and deadlines and motions
-- by their places, as those programs count them.
use Rattle.std.specs.Prelude.{ℕ, ◌+◌, List, [], ◌∷◌, ◌++◌, Option, Some, None, option_map, drop, nat_eq, take, if◌then◌else◌}
use Rattle.std.specs.Fmt.{decimal}
use Rattle.csv.specs.Writing.{default_writer, row_text}
use Rattle.case_numbers.specs.Words.{after_name}
use Rattle.docket_rows.specs.declared.command.Command.{Command as CommandOf}
use Rattle.docket_rows.specs.declared.command.Command.TheVariants as command
use Rattle.docket_rows.specs.declared.command.Subject.{Subject}
use Rattle.docket_rows.specs.declared.fact.Fact.{Fact}
use Rattle.docket_rows.specs.declared.fact.Fact.TheVariants.{Ended}
use Rattle.docket_rows.specs.Words.{subject_of, suspended_by}
use Rattle.row_forms.specs.declared.row.Work.{Work}
use Rattle.row_forms.specs.declared.row.Work.TheVariants.{Command, Query}
use Rattle.row_forms.specs.Words.{names_of}
use Rattle.desk_numbers.specs.declared.moved.Moved.{Moved}
use Rattle.desk_numbers.specs.Words.{is_apart, placed}
use Rattle.row_forms.specs.declared.line.line.Line.{Line}
use Rattle.row_forms.specs.declared.line.line.Line.TheVariants as line
use Rattle.row_forms.specs.Line.Words.{fields_read, line_read}
use Rattle.desk_numbers.specs.Strikes.Words.{is_struck}
use Rattle.desk_register.specs.declared.standing.Standing.{Standing}
use Rattle.desk_register.specs.Words.{before_number, most_clerks, with_suspender}

-- the number of the deadline or the motion that a command names
abbrev pub number_in : CommandOf → Option ℕ
number_in command = option_map (λ (s : Subject). s.number) (subject_of command)

abbrev pub number_asked : Work → Option ℕ
number_asked (Command command) = number_in command
number_asked (Query query) = None

-- A row with these fields that names this number after `before` of them, where what has the number is at this place: with the place
-- in the number's field, where it is another. A number that nothing has any more is at a place apart, and its row, which was
-- refused, is left out.
abbrev pub row_placed : (before : ℕ) → (number place : Option ℕ) → (fields : List (List ℕ)) → List ℕ
row_placed before None place fields = row_text default_writer fields
row_placed before (Some number) None fields = row_text default_writer fields
row_placed before (Some number) (Some place) fields =
    if nat_eq number place then row_text default_writer fields
    else if is_apart place then []
    else row_text default_writer (take before fields ++ decimal place ∷ drop (before + 1) fields)

-- the motion that a row says suspends a deadline
abbrev pub suspender_by : Fact → Option ℕ
suspender_by (Ended deadline why dated) = suspended_by why
suspender_by fact = None

abbrev pub suspender_of : CommandOf → Option ℕ
suspender_of (command.Fact case fact) = suspender_by fact
suspender_of other = None

abbrev pub suspender_in : Work → Option ℕ
suspender_in (Command command) = suspender_of command
suspender_in (Query query) = None

-- a row with these fields that asks for this, where by places it asks for that
abbrev pub work_placed : (asked placed : Work) → (fields : List (List ℕ)) → List ℕ
work_placed asked placed fields = row_placed (before_number asked) (number_asked asked) (number_asked placed) fields

-- The same of one that says that this motion suspends a deadline, where the motion is at this place: with the place in its field, where
-- it is another.
abbrev pub row_suspended : (asked placed : Work) → (motion place : Option ℕ) → (fields : List (List ℕ)) → List ℕ
row_suspended asked placed None place fields = work_placed asked placed fields
row_suspended asked placed (Some motion) None fields = work_placed asked placed fields
row_suspended asked placed (Some motion) (Some place) fields =
    if nat_eq motion place then work_placed asked placed fields
    else if is_apart place then []
    else work_placed asked placed (with_suspender fields place)

abbrev pub asked_placed : (asked placed : Work) → (fields : List (List ℕ)) → List ℕ
asked_placed asked placed fields = row_suspended asked placed (suspender_in asked) (suspender_in placed) fields

-- what is written of a line that says this
abbrev pub said_placed : List Moved → Line → (fields : List (List ℕ)) → List ℕ
said_placed moved line.Blank fields = []
said_placed moved (line.Fault cause) fields = []
said_placed moved (line.Row row) fields = asked_placed row.work (placed moved row.work) fields

-- what is written of the row of that number, whose entry this is, where this is what isn't at the place of its number
unfoldable pub row_written : Standing → List Moved → (number : ℕ) → (entry : List ℕ) → List ℕ
row_written under moved number entry =
    if is_struck under.corrections number then []
    else said_placed moved (line_read most_clerks (names_of under.court) (after_name entry)) (fields_read (after_name entry))

-- what is written of rows, of which the first has this number
unfoldable pub rows_written : Standing → List Moved → (number : ℕ) → (entries : List (List ℕ)) → List ℕ
rows_written under moved number [] = []
rows_written under moved number (entry ∷ entries) = row_written under moved number entry ++ rows_written under moved (number + 1) entries

-- the row with which an entry begins, as CSV
abbrev pub shown_as : Line → (fields : List (List ℕ)) → List ℕ
shown_as line.Blank fields = []
shown_as (line.Fault cause) fields = []
shown_as (line.Row row) fields = row_text default_writer fields
