-- Rows one after another.
use Rattle.std.proofs.Common.{◌≡◌, ◌+◌, ◌≤◌, ◌<◌, ◌∙◌, ◌++◌, ℕ, true, false, List, [], ◌∷◌, Result, Ok, Err, ltb, refl, sym, ap, append_assoc, append-nil, arith}
use Rattle.std.specs.List.{list_all}
use Rattle.std.specs.Str.{is_utf8}
use Rattle.std.proofs.lemmas.Bool.Decides.{nat_tests}
use Rattle.row_forms.specs.declared.row.Row.{Row}
use Rattle.row_forms.specs.declared.fault.RowCause.{RowCause}
use Rattle.row_forms.specs.declared.fault.RowCause.TheVariants.{NotText, TooManyRows}
use Rattle.row_forms.specs.declared.fault.RowError.{RowError}
use Rattle.row_forms.specs.declared.fault.RowError.TheVariants.{Fault, OutOfMemory}
use Rattle.row_forms.specs.Columns.{◌>>=◌}
use Rattle.row_forms.specs.CourtNames.{CourtNames}
use Rattle.row_forms.specs.Rows.{AnswersRow, AnswersRows, most_rows, office_row_of, row_of, rows_read_from}

-- the rows after others that were read before them
abbrev pub behind_rows : List Row → Result (List Row) (ℕ × RowCause) → Result (List Row) (ℕ × RowCause)
behind_rows before (Ok rows) = Ok (before ++ rows)
behind_rows before (Err fault) = Err fault

pub behind_nothing : (later : Result (List Row) (ℕ × RowCause)) → behind_rows [] later ≡ later
behind_nothing (Ok rows) = refl
behind_nothing (Err fault) = refl

within : (number : ℕ) → number ≤ most_rows → ltb most_rows number ≡ false
within number few = grind (arith, nat_tests)

-- a record that spells a row
pub rows_read_from-row : (clerks : ℕ) (names : CourtNames) (number : ℕ) (fields : List (List ℕ)) (later : List (List (List ℕ))) (before : List Row) (row : Row) → number ≤ most_rows → office_row_of clerks names fields ≡ Ok row
    → behind_rows before (rows_read_from clerks names number (fields ∷ later)) ≡ behind_rows (before ++ row ∷ []) (rows_read_from clerks names (number + 1) later)
unfolding rows_read_from
rows_read_from-row clerks names number fields later before row few spelled = rw (within number few, spelled) (by (rows_read_from clerks names (number + 1) later))
  where
    by : (rest : Result (List Row) (ℕ × RowCause)) → behind_rows before (rest >>= (λ rows. Ok (row ∷ rows))) ≡ behind_rows (before ++ row ∷ []) rest
    by (Ok rows) = ap Ok (sym (append_assoc before (row ∷ []) rows))
    by (Err fault) = refl

-- a record that spells none
pub rows_read_from-fault : (clerks : ℕ) (names : CourtNames) (number : ℕ) (fields : List (List ℕ)) (later : List (List (List ℕ))) (before : List Row) (cause : RowCause) → number ≤ most_rows → office_row_of clerks names fields ≡ Err cause
    → behind_rows before (rows_read_from clerks names number (fields ∷ later)) ≡ Err (number, cause)
unfolding rows_read_from
rows_read_from-fault clerks names number fields later before cause few fault = rw (within number few, fault)

pub row_of_no_text : (clerks : ℕ) (names : CourtNames) (fields : List (List ℕ)) → list_all is_utf8 fields ≡ false → row_of clerks names fields ≡ Err NotText
unfolding row_of
row_of_no_text clerks names fields fails = rw fails

pub office_row_of_no_text : (clerks : ℕ) (names : CourtNames) (fields : List (List ℕ)) → list_all is_utf8 fields ≡ false → office_row_of clerks names fields ≡ Err NotText
unfolding office_row_of
office_row_of_no_text clerks names fields fails = rw fails

-- the same, of what reading it answered
pub rows_read_from-err : {X : Type 0} (view : X → List Row) (clerks : ℕ) (names : CourtNames) (number : ℕ) (fields : List (List ℕ)) (later : List (List (List ℕ))) (before : List Row) (all : Result (List Row) (ℕ × RowCause)) (error : RowError) → number ≤ most_rows
    → behind_rows before (rows_read_from clerks names number (fields ∷ later)) ≡ all → AnswersRow number (Err error) (office_row_of clerks names fields) → AnswersRows view (Err error) all
rows_read_from-err view clerks names number fields later before all (Fault n cause) few so_far fault =
    sym so_far ∙ rows_read_from-fault clerks names number fields later before cause few fault.0 ∙ ap (λ m. Err (m, cause)) (sym fault.1)
rows_read_from-err view clerks names number fields later before all OutOfMemory few so_far fault = absurd fault

-- a record too many
pub rows_read_from-past : (clerks : ℕ) (names : CourtNames) (number : ℕ) (fields : List (List ℕ)) (later : List (List (List ℕ))) (before : List Row) → most_rows < number
    → behind_rows before (rows_read_from clerks names number (fields ∷ later)) ≡ Err (number, TooManyRows)
unfolding rows_read_from
rows_read_from-past clerks names number fields later before many =
    let past : ltb most_rows number ≡ true = grind (arith, nat_tests) in
    rw past

-- no record
pub rows_read_from-nil : (clerks : ℕ) (names : CourtNames) (number : ℕ) (before : List Row) → behind_rows before (rows_read_from clerks names number []) ≡ Ok before
unfolding rows_read_from
rows_read_from-nil clerks names number before = ap Ok (append-nil before)
