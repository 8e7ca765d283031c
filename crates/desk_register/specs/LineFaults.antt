-- What is wrong with the lines of an input.
use Rattle.std.specs.Prelude.{◌≡◌, ◌<◌, ℕ, Bool, true, List, [], ◌∷◌, ◌++◌, length}
use Rattle.case_numbers.specs.Words.{CasesView}
use Rattle.row_forms.specs.Words.{names_of}
use Rattle.row_forms.specs.declared.line.line.Line.{Line}
use Rattle.row_forms.specs.declared.line.line.Line.TheVariants as says
use Rattle.row_forms.specs.Line.Words.{line_read}
use Rattle.desk_register.specs.declared.cause.LineCause.{LineCause}
use Rattle.desk_register.specs.declared.line_faults.LineFault.{LineFault}
use Rattle.desk_numbers.specs.Strikes.Words.{all_before}
use Rattle.desk_register.specs.declared.standing.Standing.{Standing}
use Rattle.desk_register.specs.Cases.{cases_of}
use Rattle.desk_register.specs.Entries.{most_clerks, next_number}
use Rattle.desk_register.specs.LineCauses.{cause_as}
use Rattle.desk_register.specs.CaseLines.{Reading}
use Rattle.desk_register.specs.Subjects.{read_apart}
use Rattle.desk_register.specs.Rows.{plain_leaves, too_many_at, with_name, within}

-- a line that has a fault: its number, what is wrong with it, and the line
pub record FaultyLine : Type 0 where
  pub number : ℕ
  pub cause : LineCause
  pub line : List ℕ

abbrev pub fault_in : LineFault → FaultyLine
fault_in fault = record { number = fault.number; cause = fault.cause; line = fault.line.items }

-- the fault of the line of that number, which says this, and opens a case too many or not
abbrev pub fault_as : (number : ℕ) → (line : List ℕ) → (too_many : Bool) → Line → List FaultyLine
fault_as number line too_many says.Blank = []
fault_as number line too_many (says.Fault cause) = record { number = number; cause = cause_as too_many cause; line = line } ∷ []
fault_as number line too_many (says.Row row) = []

-- there are as many entries, they opened these cases, and each row that is struck is among them
pub record CountsAs (under : Standing) (kept : List (List ℕ)) (count : ℕ) (cases : CasesView) : Type 0 where
  pub count_is : count ≡ length kept
  pub cases_are : cases ≡ cases_of under kept
  pub begun : 0 < length kept
  pub before : all_before under.corrections (next_number kept) ≡ true

-- how a line is read before the docket is known by which it will be decided: with the number 1 in place of the name of a deadline
-- or a motion
abbrev pub read_before : Standing → (kept : List (List ℕ)) → (line : List ℕ) → Reading
read_before under kept line = read_apart (names_of under.court) (cases_of under kept) line

-- what it then leaves: as many entries as when it is decided, and the same cases are opened
abbrev pub left_before : Standing → (kept : List (List ℕ)) → (line : List ℕ) → List (List ℕ)
left_before under kept line = let reading = read_before under kept line in with_name reading.name (plain_leaves under kept reading.text)

-- the faults of lines with their numbers, each line after what those before it then leave
unfoldable pub faults_of : Standing → (kept : List (List ℕ)) → List (ℕ × List ℕ) → List FaultyLine
faults_of under kept [] = []
faults_of under kept (line ∷ lines) =
    fault_as line.0 line.1 (too_many_at under kept line.1) (within kept (line_read most_clerks (names_of under.court) (read_before under kept line.1).text)) ++ faults_of under (kept ++ left_before under kept line.1) lines
