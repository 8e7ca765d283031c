-- The case that a row names.
use Rattle.std.specs.Prelude.{ℕ, List, ◌∷◌, Option, Some, None, map}
use Rattle.case_numbers.specs.Words.{after_name}
use Rattle.docket_rows.specs.declared.query.Query.{Query}
use Rattle.docket_rows.specs.declared.query.Query.TheVariants.{Compute, JudgeDay, Sheet}
use Rattle.docket_rows.specs.Words.{case_of}
use Rattle.row_forms.specs.declared.line.line.Line.{Line}
use Rattle.row_forms.specs.declared.line.line.Line.TheVariants as line
use Rattle.row_forms.specs.declared.row.Work.{Work}
use Rattle.row_forms.specs.declared.row.Work.TheVariants as work
use Rattle.row_forms.specs.Words.{CourtNames}
use Rattle.row_forms.specs.Line.Words.{line_read}
use Rattle.desk_entries.specs.Words.{most_clerks, row_entries}

-- the case of which a question asks
abbrev pub case_asked : Query → Option ℕ
case_asked (Sheet case) = Some case
case_asked (JudgeDay judge day) = None
case_asked (Compute period event second service) = None

-- the case that a row names in what it asks for
abbrev pub case_in_work : Work → Option ℕ
case_in_work (work.Command command) = case_of command
case_in_work (work.Query query) = case_asked query

abbrev pub case_said : Line → Option ℕ
case_said line.Blank = None
case_said (line.Fault cause) = None
case_said (line.Row row) = case_in_work row.work

-- the case that the row of an entry names, if it names one: the entry has the number of its case, also where the row had its name
abbrev pub case_named : CourtNames → (entry : List ℕ) → Option ℕ
case_named names entry = case_said (line_read most_clerks names (after_name entry))

-- The cases that the rows of entries name, at the place of each row's number. There is no row 0.
abbrev pub cases_named : CourtNames → (entries : List (List ℕ)) → List (Option ℕ)
cases_named names entries = None ∷ map (case_named names) (row_entries entries)
