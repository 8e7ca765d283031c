-- What reading rows means: each record spells the row of its place, or one of them is the first that doesn't.
use Rattle.std.specs.Prelude.{◌≡◌, ◌+◌, ◌<◌, ℕ, List, length, MatchResult, IsOk, Ok, Err, slice_get, Some, IfSome}
use Rattle.row_forms.specs.declared.row.Row.{Row}
use Rattle.row_forms.specs.declared.fault.RowCause.{RowCause}
use Rattle.row_forms.specs.CourtNames.{CourtNames}
use Rattle.row_forms.specs.Rows.{numbered_row, rows_read_from}

-- the record at each place spells the row there; the first has this number
pub record AreSpelled (clerks : ℕ) (names : CourtNames) (first : ℕ) (records : List (List (List ℕ))) (rows : List Row) : Type 0 where
  pub count : length rows ≡ length records
  pub each : (i : ℕ) (fields : List (List ℕ)) (row : Row) → slice_get records i ≡ Some fields → slice_get rows i ≡ Some row → numbered_row clerks names (i + first) fields ≡ Ok row

-- the row of this number has this fault, and those before it have none
pub record IsFirstFault (clerks : ℕ) (names : CourtNames) (first : ℕ) (records : List (List (List ℕ))) (number : ℕ) (cause : RowCause) : Type 0 where
  pub place : ℕ
  pub numbered : number ≡ place + first
  pub fault : IfSome (slice_get records place) (λ fields. numbered_row clerks names number fields ≡ Err (number, cause))
  pub within : place < length records
  pub before : (i : ℕ) (fields : List (List ℕ)) → i < place → slice_get records i ≡ Some fields → IsOk (numbered_row clerks names (i + first) fields)

abbrev pub FirstFaultIsTold : Type 0
FirstFaultIsTold = (clerks : ℕ) (names : CourtNames) (first : ℕ) (records : List (List (List ℕ))) →
    MatchResult (rows_read_from clerks names first records) (AreSpelled clerks names first records) (λ fault. IsFirstFault clerks names first records fault.0 fault.1)
