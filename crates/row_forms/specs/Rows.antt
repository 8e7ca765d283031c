-- The rows that records spell, or their first fault. Rows one after another are those of clerk_office; the desk reads each by itself.
use Rattle.std.specs.Prelude.{◌≡◌, ℕ, ◌+◌, ◌&&◌, not, List, [], ◌∷◌, length, nat_lt, nat_le, Option, Some, None, Result, Ok, Err, if◌then◌else◌}
use Rattle.std.specs.List.{list_all}
use Rattle.std.specs.Option.{ok_or, option_and_then}
use Rattle.std.specs.Str.{is_utf8}
use Rattle.csv.specs.Reading.{default_config, records, strip_bom}
use Rattle.row_forms.specs.declared.fault.RowCause.{RowCause}
use Rattle.row_forms.specs.declared.fault.RowCause.TheVariants.{BadClerk, WrongCount, NotText, TooManyRows}
use Rattle.row_forms.specs.declared.fault.RowError.{RowError}
use Rattle.row_forms.specs.declared.fault.RowError.TheVariants.{Fault, OutOfMemory}
use Rattle.row_forms.specs.declared.row.Row.{Row}
use Rattle.row_forms.specs.declared.row.Work.{Work}
use Rattle.row_forms.specs.Columns.{◌>>=◌, column}
use Rattle.row_forms.specs.Fields.Numbers.{number_of}
use Rattle.row_forms.specs.Forms.{office_work_of, work_of}
use Rattle.row_forms.specs.CourtNames.{CourtNames}

-- a clerk's number, from 1 to the number of clerks
unfoldable pub clerk_of : ℕ → List ℕ → Option ℕ
clerk_of clerks field = option_and_then (λ n. if nat_le 1 n && nat_le n clerks then Some n else None) (number_of field)

-- the row that a record spells which asks for this, or its fault: the first in this order
abbrev pub row_asking : ℕ → (asked : Result Work RowCause) → List (List ℕ) → Result Row RowCause
row_asking clerks asked fields =
    if not (list_all is_utf8 fields) then Err NotText
    else if nat_lt (length fields) 2 then Err WrongCount
    else do
      clerk ← ok_or (clerk_of clerks (column fields 1)) BadClerk
      work ← asked
      Ok (record { clerk = clerk; work = work })

-- the row of the desk that a record spells, or its fault
unfoldable pub row_of : ℕ → CourtNames → List (List ℕ) → Result Row RowCause
row_of clerks names fields = row_asking clerks (work_of names fields) fields

-- the row of clerk_office that a record spells, or its fault
unfoldable pub office_row_of : ℕ → CourtNames → List (List ℕ) → Result Row RowCause
office_row_of clerks names fields = row_asking clerks (office_work_of names fields) fields

-- a fault, with the number of its row
abbrev pub in_row : {A : Type 0} → ℕ → Result A RowCause → Result A (ℕ × RowCause)
in_row number (Ok x) = Ok x
in_row number (Err cause) = Err (number, cause)

-- how many rows the office takes: its own choice
abbrev pub most_rows : ℕ
most_rows = 100_000

-- the row that the record of this number spells, counted from 1: there are only as many rows as the office takes
abbrev pub numbered_row : ℕ → CourtNames → ℕ → List (List ℕ) → Result Row (ℕ × RowCause)
numbered_row clerks names number fields = in_row number (if nat_lt most_rows number then Err TooManyRows else office_row_of clerks names fields)

-- the rows of records, the first of which has this number, or the first fault with its row's number
unfoldable pub rows_read_from : ℕ → CourtNames → ℕ → List (List (List ℕ)) → Result (List Row) (ℕ × RowCause)
rows_read_from clerks names number [] = Ok []
rows_read_from clerks names number (fields ∷ more) = do
  row ← numbered_row clerks names number fields
  rows ← rows_read_from clerks names (number + 1) more
  Ok (row ∷ rows)

-- the rows of bytes, over the records that they have as CSV: no header, any number of fields, blank lines skipped
unfoldable pub rows_read : ℕ → CourtNames → List ℕ → Result (List Row) (ℕ × RowCause)
rows_read clerks names bytes = rows_read_from clerks names 1 (records default_config (strip_bom bytes))

-- what reading the row of this number answers: the row or its fault
abbrev pub AnswersRow : ℕ → Result Row RowError → Result Row RowCause → Type 0
AnswersRow number (Ok row) defined = defined ≡ Ok row
AnswersRow number (Err (Fault n cause)) defined = (defined ≡ Err cause) × (n ≡ number)
AnswersRow number (Err OutOfMemory) defined = ⊥

-- what reading rows answers: the rows, or the first fault, unless memory ran out
abbrev pub AnswersRows : {X : Type 0} → (X → List Row) → Result X RowError → Result (List Row) (ℕ × RowCause) → Type 0
AnswersRows view (Ok rows) defined = defined ≡ Ok (view rows)
AnswersRows view (Err (Fault number cause)) defined = defined ≡ Err (number, cause)
AnswersRows view (Err OutOfMemory) defined = Unit {0}
