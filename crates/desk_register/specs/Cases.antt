-- The cases that entries opened once, and the names of those that have one.
use Rattle.std.specs.Prelude.{ℕ, List, [], ◌∷◌, Option, Some, None}
use Rattle.case_numbers.specs.Words.{CasesView, NameView, after_name, name_before, no_cases, with_case}
use Rattle.docket_rows.specs.declared.command.Command.{Command as CommandOf}
use Rattle.docket_rows.specs.declared.command.Command.TheVariants.{OpenCase}
use Rattle.row_forms.specs.declared.row.Work.{Work}
use Rattle.row_forms.specs.declared.row.Work.TheVariants.{Command, Query}
use Rattle.row_forms.specs.Words.{CourtNames, names_of}
use Rattle.row_forms.specs.declared.line.line.Line.{Line}
use Rattle.row_forms.specs.declared.line.line.Line.TheVariants as line
use Rattle.row_forms.specs.Line.Words.{line_read}
use Rattle.desk_register.specs.declared.standing.Standing.{Standing}
use Rattle.desk_register.specs.Entries.{most_clerks, row_entries}

-- the case that a command opens
abbrev pub opened_by : CommandOf → Option ℕ
opened_by (OpenCase case filed) = Some case
opened_by command = None

-- the case that a row opens
abbrev pub opened_as : Work → Option ℕ
opened_as (Command command) = opened_by command
opened_as (Query query) = None

-- the case that the row of a line opens
abbrev pub opened_in : Line → Option ℕ
opened_in line.Blank = None
opened_in (line.Fault cause) = None
opened_in (line.Row row) = opened_as row.work

-- the cases after a row that opens this one, perhaps by a name
abbrev pub with_opened : CasesView → Option ℕ → Option NameView → CasesView
with_opened cases None name = cases
with_opened cases (Some number) name = with_case cases number name

-- The cases after the entry of a row. One that is struck or refused opens no case, but the number that it names is taken for ever, and
-- so is its name: no other case is given them.
abbrev pub cases_with : CourtNames → CasesView → (entry : List ℕ) → CasesView
cases_with names cases entry = with_opened cases (opened_in (line_read most_clerks names (after_name entry))) (name_before entry)

-- the cases after these entries, each a row with its answer
unfoldable pub cases_after : CourtNames → CasesView → (entries : List (List ℕ)) → CasesView
cases_after names cases [] = cases
cases_after names cases (entry ∷ entries) = cases_after names (cases_with names cases entry) entries

-- the cases that entries named in rows that open one
unfoldable pub cases_of : Standing → (kept : List (List ℕ)) → CasesView
cases_of under kept = cases_after (names_of under.court) no_cases (row_entries kept)
