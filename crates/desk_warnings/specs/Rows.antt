-- Lines of several rows, and what speaks against taking them.
use Rattle.std.specs.Prelude.{ℕ, Bool, ◌&&◌, ◌==◌, nat_lt, true, false, List, [], ◌∷◌, ◌++◌, codes, length, Option, Some, None, if◌then◌else◌}
use Rattle.std.specs.List.{flat_map, slice_split}
use Rattle.std.specs.Str.{bytes_eq}
use Rattle.case_numbers.specs.Words.{NameView}
use Rattle.docket_rows.specs.Words.{parts_of}
use Rattle.row_forms.specs.declared.fault.RowCause.{RowCause}
use Rattle.row_forms.specs.declared.fault.RowCause.TheVariants.{BadField}
use Rattle.row_forms.specs.declared.line.line.Line.{Line}
use Rattle.row_forms.specs.declared.line.line.Line.TheVariants as says
use Rattle.row_forms.specs.Line.Words.{fields_read, line_read}
use Rattle.row_forms.specs.Words.{cause_text, column, names_of}
use Rattle.desk_session.specs.declared.outcome.Outcome.{Outcome}
use Rattle.desk_session.specs.declared.outcome.Outcome.TheVariants as came
use Rattle.desk_register.specs.declared.standing.Standing.{Standing}
use Rattle.desk_register.specs.Words.{cases_of, docketed_by, leaves, most_clerks, outcome, reading_at, run_by, within}
use Rattle.desk_warnings.specs.declared.register.HeldBack.{HeldBack}
use Rattle.desk_warnings.specs.declared.register.HeldBack.TheVariants.{Nothing, Warned}
use Rattle.desk_warnings.specs.Warnings.{warnings_on}

-- The rows of a line: between them is the byte 30, ASCII's record separator. A line without one is its one row.
abbrev pub line_rows : (line : List ℕ) → List (List ℕ)
line_rows line = slice_split (λ byte. byte == 30) line

-- how much is left to do of a row of which this comes
abbrev pub left_to_do : Outcome → ℕ
left_to_do came.Blank = 0
left_to_do came.Taken = 1
left_to_do came.Refused = 2
left_to_do came.Held = 3
left_to_do came.Fault = 4

-- what comes of two rows together: that of the one of which more is left to do
abbrev pub either_came : Outcome → (later : Outcome) → Outcome
either_came first later = if nat_lt (left_to_do first) (left_to_do later) then later else first

-- what comes of rows after entries, each after what those before it leave, where this came of others before
unfoldable pub came_after : Standing → Outcome → (kept : List (List ℕ)) → (rows : List (List ℕ)) → Outcome
came_after under first kept [] = first
came_after under first kept (row ∷ rows) = came_after under (either_came first (outcome under kept row)) (kept ++ leaves under kept row) rows

-- what comes of rows
abbrev pub came_of_rows : Standing → (kept : List (List ℕ)) → (rows : List (List ℕ)) → Outcome
came_of_rows under kept rows = came_after under came.Blank kept rows

-- what a clerk is warned of a row that says this, and gives a case this new name, by what is docketed before its line
abbrev pub warnings_said : Standing → HeldBack → (kept : List (List ℕ)) → (name : Option NameView) → Line → List ℕ
warnings_said under held kept name says.Blank = []
warnings_said under held kept name (says.Fault cause) = []
warnings_said under held kept name (says.Row row) = warnings_on under.court (run_by under kept).numbers.moved (cases_of under kept).named (parts_of (docketed_by under kept)) held name row.work

-- what a row says as the one that comes next
abbrev pub said_at : Standing → (kept : List (List ℕ)) → (row : List ℕ) → Line
said_at under kept row = within kept (line_read most_clerks (names_of under.court) (reading_at under kept row).text)

-- the name that it gives to a case, where no case has it
abbrev pub name_at : Standing → (kept : List (List ℕ)) → (row : List ℕ) → Option NameView
name_at under kept row = (reading_at under kept row).name

unfoldable pub warnings_at : Standing → HeldBack → (kept : List (List ℕ)) → (row : List ℕ) → List ℕ
warnings_at under held kept row = warnings_said under held kept (name_at under kept row) (said_at under kept row)

-- what speaks against a row that is alone in its line: what it is warned of, where such rows are held back
abbrev pub warned_at : Standing → HeldBack → (kept : List (List ℕ)) → (row : List ℕ) → List ℕ
warned_at under Nothing kept row = []
warned_at under (Warned today) kept row = warnings_at under (Warned today) kept row

-- A row of several is passed over that says what it is called what the row before it makes: that isn't made yet.
abbrev pub is_bad_field : RowCause → Bool
is_bad_field (BadField column) = true
is_bad_field cause = false

abbrev pub says_new : (fields : List (List ℕ)) → Bool
says_new fields = bytes_eq (column fields 2) (codes "label") && bytes_eq (column fields 5) (codes "new")

abbrev pub labels_as : (fields : List (List ℕ)) → Line → Bool
labels_as fields says.Blank = false
labels_as fields (says.Fault cause) = is_bad_field cause && says_new fields
labels_as fields (says.Row row) = false

abbrev pub labels_new : Standing → (row : List ℕ) → Bool
labels_new under row = labels_as (fields_read row) (line_read most_clerks (names_of under.court) row)

-- `  would be fault 4 BadField 3`
abbrev pub fault_against : RowCause → List ℕ
fault_against cause = codes "  would be fault " ++ cause_text cause ++ codes "\n"

-- what speaks against one of several rows that says this: a fault, that it would be refused, and what else it is warned of, where such
-- rows are held back
abbrev pub against_said : Standing → HeldBack → (kept : List (List ℕ)) → (name : Option NameView) → Line → List ℕ
against_said under held kept name says.Blank = []
against_said under held kept name (says.Fault cause) = fault_against cause
against_said under held kept name (says.Row row) = warnings_said under held kept name (says.Row row)

unfoldable pub against_row : Standing → HeldBack → (kept : List (List ℕ)) → (row : List ℕ) → List ℕ
against_row under held kept row = if labels_new under row then [] else against_said under held kept (name_at under kept row) (said_at under kept row)

-- what speaks against one of the rows of a line, which are several or not
abbrev pub against_one : Standing → HeldBack → (kept : List (List ℕ)) → (several : Bool) → (row : List ℕ) → List ℕ
against_one under held kept several row = if several then against_row under held kept row else warned_at under held kept row

-- what speaks against the rows of a line, each by what is docketed before the line
abbrev pub against_rows : Standing → HeldBack → (kept : List (List ℕ)) → (rows : List (List ℕ)) → List ℕ
against_rows under held kept rows = flat_map (against_one under held kept (nat_lt 1 (length rows))) rows

-- the rows of a line that are taken: all of them, or none where something speaks against one
abbrev pub taken_if : (rows : List (List ℕ)) → (against : List ℕ) → Option (List (List ℕ))
taken_if rows [] = Some rows
taken_if rows (byte ∷ bytes) = None
