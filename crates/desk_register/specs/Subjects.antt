-- Rows that name a deadline or a motion without its number: by its rule, as the last, or by what it is called.
use Rattle.std.specs.Prelude.{◌≡◌, ◌-◌, ℕ, List, Option, Some, None, codes, nat_eq, option_map, if◌then◌else◌}
use Rattle.std.specs.Str.{bytes_eq}
use Rattle.csv.specs.Writing.{default_writer, row_text}
use Rattle.case_numbers.specs.Words.{CasesView, NameView}
use Rattle.docket_rows.specs.declared.command.Command.{Command as CommandOf}
use Rattle.docket_rows.specs.declared.command.Command.TheVariants as command
use Rattle.docket_rows.specs.declared.command.Counted.{Counted}
use Rattle.docket_rows.specs.declared.command.Counted.TheVariants.{Deadline, Motion}
use Rattle.docket_rows.specs.declared.command.Subject.{Subject}
use Rattle.docket_rows.specs.declared.fact.Fact.TheVariants.{Labelled}
use Rattle.docket_rows.specs.declared.query.Query.TheVariants.{Sheet}
use Rattle.docket_rows.specs.Words.{CourtSetup, Rows, subject_of, view_of}
use Rattle.rule_periods.specs.declared.rule.RulePeriod.{RulePeriod}
use Rattle.rule_periods.specs.Words.{rule_of_code}
use Rattle.row_forms.specs.declared.row.Work.{Work}
use Rattle.row_forms.specs.declared.row.Work.TheVariants.{Command, Query}
use Rattle.row_forms.specs.declared.line.line.Line.{Line}
use Rattle.row_forms.specs.declared.line.line.Line.TheVariants as line
use Rattle.row_forms.specs.Words.{CourtNames, column, is_text}
use Rattle.row_forms.specs.Line.Words.{fields_read, line_read}
use Rattle.desk_numbers.specs.declared.subjects.Found.{Found}
use Rattle.desk_numbers.specs.declared.subjects.Found.TheVariants as found
use Rattle.desk_numbers.specs.declared.subjects.SubjectName.{SubjectName}
use Rattle.desk_numbers.specs.declared.subjects.SubjectName.TheVariants.{Under, Newest, Made, Called}
use Rattle.desk_numbers.specs.Words.{NumbersView, TextsView, found_in, last_given, numbered_view}
use Rattle.desk_register.specs.declared.subject.Named.{Named}
use Rattle.desk_register.specs.CaseLines.{Reading, lacks_field, reading_of, with_number}
use Rattle.desk_register.specs.Entries.{most_clerks}

-- the deadline or the motion that a row names
abbrev pub asked_by : Work → Option Subject
asked_by (Command command) = subject_of command
asked_by (Query query) = None

-- how many fields of a row come before that number: one that says what a deadline or a motion is called says before it which of the two
-- it is
abbrev pub before_in : CommandOf → ℕ
before_in (command.Fact case (Labelled counted number)) = 4
before_in command = 3

abbrev pub before_number : Work → ℕ
before_number (Command command) = before_in command
before_number (Query query) = 3

-- what a row of a line names by a number in that column, counted from 1
abbrev pub asked_in : (at : ℕ) → Line → Option Subject
asked_in at line.Blank = None
asked_in at (line.Fault cause) = None
asked_in at (line.Row row) = if nat_eq (before_number row.work) (at - 1) then asked_by row.work else None

-- a field is what a deadline or a motion is called, where a text may call something so
abbrev pub called_by : Counted → (field : List ℕ) → Option SubjectName
called_by counted field = if is_text field then Some (Called counted) else None

abbrev pub under_or : Option RulePeriod → (field : List ℕ) → Option SubjectName
under_or (Some rule) field = Some (Under rule)
under_or None field = called_by Deadline field

-- The name that a field is in place of a number: of a deadline its rule's code, of a motion `last`, of both `new`, for what the row before
-- made, and else what it is called.
abbrev pub other_name : Counted → (field : List ℕ) → Option SubjectName
other_name Deadline field = under_or (rule_of_code field) field
other_name Motion field = if bytes_eq field (codes "last") then Some Newest else called_by Motion field

abbrev pub name_for : Counted → (field : List ℕ) → Option SubjectName
name_for counted field = if bytes_eq field (codes "new") then Some (Made counted) else other_name counted field

-- what a row names in the field of that column, that would name this with a number there
abbrev pub named_as : (at : ℕ) → Option Subject → (field : List ℕ) → Option Named
named_as at None field = None
named_as at (Some subject) field = option_map (λ (name : SubjectName). record { case = subject.case; at = at; name = name }) (name_for subject.counted field)

-- what a row with these fields names in that column without its number: with the number 1 there it is read
abbrev pub named_by : CourtNames → (at : ℕ) → (fields : List (List ℕ)) → Option Named
named_by names at fields = named_as at (asked_in at (line_read most_clerks names (row_text default_writer (with_number (at - 1) fields 1)))) (column fields at)

-- what a plain line names without its number in its fifth field
abbrev pub named_fifth : CourtNames → (text : List ℕ) → Option Named
named_fifth names text = if lacks_field 5 (line_read most_clerks names text) then named_by names 5 (fields_read text) else None

-- what a plain line names without its number
unfoldable pub named_in : CourtNames → (text : List ℕ) → Option Named
named_in names text = if lacks_field 4 (line_read most_clerks names text) then named_by names 4 (fields_read text) else named_fifth names text

-- what a plain line that names this says in place of a number
abbrev pub name_said : (text : List ℕ) → Named → List ℕ
name_said text named = column (fields_read text) named.at

-- what has that name, which a row says so, in what is docketed, with these numbers, where things are called by these texts
abbrev pub found_for : CourtSetup → (docketed : Rows) → NumbersView → TextsView → Named → (field : List ℕ) → Found
found_for setup docketed numbers texts named field =
    found_in named.name texts (last_given numbers.given) field (numbered_view numbers.moved (view_of setup docketed (Sheet named.case)))

-- the text of a plain line with the number of what was found in place of its name, in that column
abbrev pub with_found : (at : ℕ) → (text : List ℕ) → Found → List ℕ
with_found at text found.None = text
with_found at text (found.One number) = row_text default_writer (with_number (at - 1) (fields_read text) number)
with_found at text (found.Two number other) = text

-- how a line is read after rows that opened these cases, with the number 1 in place of such a name
abbrev pub one_text : (text : List ℕ) → Option Named → List ℕ
one_text text None = text
one_text text (Some named) = with_found named.at text (found.One 1)

abbrev pub read_apart : CourtNames → CasesView → (line : List ℕ) → Reading
read_apart names cases line =
    let cased = reading_of names cases line in
    record { text = one_text cased.text (named_in names cased.text); name = cased.name }

-- a line is read so: this is what its plain line says, and its new name
pub record IsReadApart (names : CourtNames) (cases : CasesView) (line : List ℕ) (read : Line × Option NameView) : Type 0 where
  pub said : read.0 ≡ line_read most_clerks names (read_apart names cases line).text
  pub name : read.1 ≡ (read_apart names cases line).name
