-- The rows of a text in two parts.
use Rattle.std.proofs.Common.{◌≡◌, ◌++◌, ℕ, true, List, Result, Ok, Err}
use Rattle.csv.specs.Reading.{default_config, records, strip_bom}
use Rattle.row_forms.specs.declared.row.Row.{Row}
use Rattle.row_forms.specs.declared.fault.RowError.{RowError}
use Rattle.row_forms.specs.declared.fault.RowError.TheVariants.{Fault, OutOfMemory}
use Rattle.row_forms.specs.CourtNames.{CourtNames}
use Rattle.row_forms.specs.Rows.{AnswersRows, rows_read, rows_read_from}
use Rattle.program_runs.specs.Inside.Division.{AreParts, can_be_divided}
use Rattle.program_runs.proofs.ParallelLemmas.RecordLemmas.{records_of_parts}
use Rattle.program_runs.proofs.ParallelLemmas.RowLemmas.{fault_first}

-- an error of the first part is one of the text
pub error_of_first : {X : Type 0} (view : X → List Row) (clerks : ℕ) (names : CourtNames) (text first later : List ℕ) (error : RowError) → AreParts text first later → can_be_divided text ≡ true
    → AnswersRows view (Err error) (rows_read clerks names first) → AnswersRows view (Err error) (rows_read clerks names text)
unfolding rows_read
error_of_first view clerks names text first later OutOfMemory parts can answers = tt
error_of_first view clerks names text first later (Fault number cause) parts can answers =
    rw (records_of_parts text first later parts can)
    (fault_first clerks names 1 (records default_config (strip_bom first)) (records default_config (strip_bom later)) (number, cause) answers)

-- what makes one of the rows of any two parts makes one of those of the text
pub rows_of_both : {X : Type 0} (view : X → List Row) (clerks : ℕ) (names : CourtNames) (text first later : List ℕ) (rows : X) (laters result : Result X RowError) → AreParts text first later → can_be_divided text ≡ true
    → AnswersRows view (Ok rows) (rows_read clerks names first) → AnswersRows view laters (rows_read clerks names later)
    → ((clerks : ℕ) (names : CourtNames) (a b : List (List (List ℕ))) → rows_read_from clerks names 1 a ≡ Ok (view rows) → AnswersRows view laters (rows_read_from clerks names 1 b) → AnswersRows view result (rows_read_from clerks names 1 (a ++ b)))
    → AnswersRows view result (rows_read clerks names text)
unfolding rows_read
rows_of_both view clerks names text first later rows laters result parts can of_first of_later joined =
    rw (records_of_parts text first later parts can)
    (joined clerks names (records default_config (strip_bom first)) (records default_config (strip_bom later)) of_first of_later)
