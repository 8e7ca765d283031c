-- What reading rows says of each record.
use Rattle.std.proofs.Common.{◌≡◌, ◌+◌, ◌<◌, ℕ, zero, suc, List, [], ◌∷◌, Some, Result, Ok, Err, MatchResult, IsOk, slice_get, cond, ltb, refl, ap, arith}
use Rattle.row_forms.specs.declared.row.Row.{Row}
use Rattle.row_forms.specs.declared.fault.RowCause.{RowCause}
use Rattle.row_forms.specs.declared.fault.RowCause.TheVariants.{TooManyRows}
use Rattle.row_forms.specs.FirstFault.{AreSpelled, FirstFaultIsTold, IsFirstFault}
use Rattle.row_forms.specs.Columns.{◌>>=◌}
use Rattle.row_forms.specs.Rows.{in_row, most_rows, numbered_row, office_row_of, rows_read_from}

pub first_fault_is_told_lem : FirstFaultIsTold
unfolding rows_read_from
first_fault_is_told_lem clerks names n [] = record { count = refl; each = λ i fields row none. cc none }
first_fault_is_told_lem clerks names n (f ∷ fs) = by (cond (ltb most_rows n) (Err TooManyRows) (office_row_of clerks names f)) refl (rows_read_from clerks names (n + 1) fs) (first_fault_is_told_lem clerks names (n + 1) fs)
  where
    at_first : (i : ℕ) (r : Result Row (ℕ × RowCause)) → i ≡ 0 → numbered_row clerks names n f ≡ r → numbered_row clerks names (i + n) f ≡ r
    at_first i r e h = let same : i + n ≡ n = omega arith in rw same h

    each_row : (row : Row) (rows : List Row) → numbered_row clerks names n f ≡ Ok row → AreSpelled clerks names (n + 1) fs rows
        → (i : ℕ) (fields : List (List ℕ)) (x : Row) → slice_get (f ∷ fs) i ≡ Some fields → slice_get (row ∷ rows) i ≡ Some x → numbered_row clerks names (i + n) fields ≡ Ok x
    each_row row rows e later zero fields x at_fields at_row =
        let same_fields : f ≡ fields = cc at_fields in
        let same_row : row ≡ x = cc at_row in
        rw (← same_fields, ← same_row) (at_first 0 (Ok row) refl e)
    each_row row rows e later (suc i) fields x at_fields at_row =
        let same : suc i + n ≡ i + (n + 1) = omega arith in
        rw same (later.each i fields x at_fields at_row)

    each_before : (row : Row) (number : ℕ) (cause : RowCause) → numbered_row clerks names n f ≡ Ok row → (later : IsFirstFault clerks names (n + 1) fs number cause)
        → (i : ℕ) (fields : List (List ℕ)) → i < suc later.place → slice_get (f ∷ fs) i ≡ Some fields → IsOk (numbered_row clerks names (i + n) fields)
    each_before row number cause e later zero fields before at_fields =
        let same_fields : f ≡ fields = cc at_fields in
        rw (← same_fields, at_first 0 (Ok row) refl e) refl
    each_before row number cause e later (suc i) fields before at_fields =
        let same : suc i + n ≡ i + (n + 1) = omega arith in
        rw same (later.before i fields (omega arith) at_fields)

    by : (r : Result Row RowCause) → cond (ltb most_rows n) (Err TooManyRows) (office_row_of clerks names f) ≡ r → (rest : Result (List Row) (ℕ × RowCause))
        → MatchResult rest (AreSpelled clerks names (n + 1) fs) (λ fault. IsFirstFault clerks names (n + 1) fs fault.0 fault.1)
        → MatchResult (in_row n r >>= (λ row. rest >>= (λ rows. Ok (row ∷ rows)))) (AreSpelled clerks names n (f ∷ fs)) (λ fault. IsFirstFault clerks names n (f ∷ fs) fault.0 fault.1)
    by (Err cause) e rest later = record { place = 0; numbered = omega arith; fault = ap (in_row n) e; within = omega arith; before = λ i fields none. absurd (omega arith) }
    by (Ok row) e (Ok rows) later = record { count = ap suc later.count; each = each_row row rows (ap (in_row n) e) later }
    by (Ok row) e (Err fault) later = record {
      place = suc later.place;
      numbered = let same = later.numbered in omega arith;
      fault = later.fault;
      within = let inside = later.within in omega arith;
      before = each_before row fault.0 fault.1 (ap (in_row n) e) later;
    }
