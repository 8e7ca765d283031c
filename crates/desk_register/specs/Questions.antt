-- What lines are answered by a docket of which only questions are asked. They keep nothing, so it doesn't count how many entries
-- there are.
use Rattle.std.specs.Prelude.{ℕ, List, [], ◌++◌, codes}
use Rattle.std.specs.Fmt.{decimal}
use Rattle.row_forms.specs.declared.line.line.Line.{Line}
use Rattle.row_forms.specs.declared.line.line.Line.TheVariants as line
use Rattle.row_forms.specs.declared.row.Row.{Row}
use Rattle.row_forms.specs.declared.row.Work.{Work}
use Rattle.row_forms.specs.declared.row.Work.TheVariants.{Command, Query}
use Rattle.row_forms.specs.Words.{names_of}
use Rattle.row_forms.specs.Line.Words.{line_read}
use Rattle.desk_session.specs.declared.outcome.Outcome.{Outcome}
use Rattle.desk_session.specs.declared.outcome.Outcome.TheVariants.{Blank, Fault, Taken}
use Rattle.desk_register.specs.declared.questions.Questions.{Questions}
use Rattle.desk_register.specs.declared.standing.Standing.{Standing}
use Rattle.desk_register.specs.Entries.{most_clerks, next_number}
use Rattle.desk_register.specs.Register.{StandsAt}
use Rattle.desk_register.specs.Rows.{answer_to, reading_at, special_at, told_of, told_or}

-- the line that tells that a row asks for a change, where the next row has this number
abbrev pub command_text : (number : ℕ) → List ℕ
command_text number = codes "row " ++ decimal number ++ codes " is a command: enter it with 'docket enter'\n"

-- a question is answered as it would be if it were entered next
abbrev pub shown_for : Standing → (kept : List (List ℕ)) → Row → Work → List ℕ
shown_for under kept row (Command command) = command_text (next_number kept)
shown_for under kept row (Query query) = answer_to under kept row

abbrev pub shown_to : Standing → (kept : List (List ℕ)) → (bytes : List ℕ) → Line → List ℕ
shown_to under kept bytes line.Blank = []
shown_to under kept bytes (line.Fault cause) = told_of under kept bytes (line.Fault cause)
shown_to under kept bytes (line.Row row) = shown_for under kept row row.work

unfoldable pub shown : Standing → (kept : List (List ℕ)) → (line : List ℕ) → List ℕ
shown under kept line = told_or under kept line (special_at under kept line) (shown_to under kept line (line_read most_clerks (names_of under.court) (reading_at under kept line).text))

-- what comes of a line: whatever is answered is taken
abbrev pub came_to : Line → Outcome
came_to line.Blank = Blank
came_to (line.Fault cause) = Fault
came_to (line.Row row) = Taken

unfoldable pub came_shown : Standing → (kept : List (List ℕ)) → (line : List ℕ) → Outcome
came_shown under kept line = came_to (line_read most_clerks (names_of under.court) (reading_at under kept line).text)

-- its docket is that of the entries
abbrev pub AsksOf : Standing → Questions → (kept : List (List ℕ)) → Type 0
AsksOf under questions kept = StandsAt under questions.register kept
