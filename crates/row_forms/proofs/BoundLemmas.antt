-- How many rows are read, and whose they are.
use Rattle.std.proofs.Common.{◌≡◌, ◌+◌, ◌≤◌, ◌&&◌, ℕ, Bool, true, false, List, [], ◌∷◌, Option, Some, None, Result, Ok, Err, length, cond, leb, ltb, not, refl, arith}
use Rattle.std.specs.List.{All, list_all}
use Rattle.std.specs.Option.{ok_or, option_and_then}
use Rattle.std.specs.Str.{is_utf8}
use Rattle.std.proofs.lemmas.Bool.Decides.{nat_tests}
use Rattle.std.proofs.lemmas.List.Elements.{All-cons, All-nil}
use Rattle.row_forms.specs.declared.fault.RowCause.{RowCause}
use Rattle.row_forms.specs.declared.fault.RowCause.TheVariants.{BadClerk, NotText, TooManyRows, WrongCount}
use Rattle.row_forms.specs.declared.row.Row.{Row}
use Rattle.row_forms.specs.declared.row.Work.{Work}
use Rattle.row_forms.specs.Bounds.{IsOfClerk, RowsAreBounded}
use Rattle.row_forms.specs.Columns.{◌>>=◌, column}
use Rattle.row_forms.specs.Fields.Numbers.{number_of}
use Rattle.row_forms.specs.Forms.{office_work_of}
use Rattle.row_forms.specs.CourtNames.{CourtNames}
use Rattle.row_forms.specs.Rows.{clerk_of, in_row, most_rows, office_row_of, rows_read_from, rows_read}

-- a clerk's number that was read
clerk_within : (clerks : ℕ) (field : List ℕ) (clerk : ℕ) → clerk_of clerks field ≡ Some clerk → (1 ≤ clerk) × (clerk ≤ clerks)
unfolding clerk_of
clerk_within clerks field clerk h = by (number_of field) h
  where
    tested : (n : ℕ) (low high : Bool) → leb 1 n ≡ low → leb n clerks ≡ high → cond (low && high) (Some n) None ≡ Some clerk → (1 ≤ clerk) × (clerk ≤ clerks)
    tested n true true low high e =
        let same : n ≡ clerk = cc e in
        let first : 1 ≤ n = grind (arith, nat_tests) in
        let last : n ≤ clerks = grind (arith, nat_tests) in
        (omega arith, omega arith)
    tested n true false low high e = cc e
    tested n false high low other e = cc e

    by : (found : Option ℕ) → option_and_then (λ n. cond (leb 1 n && leb n clerks) (Some n) None) found ≡ Some clerk → (1 ≤ clerk) × (clerk ≤ clerks)
    by None e = cc e
    by (Some n) e = tested n (leb 1 n) (leb n clerks) refl refl e

-- a row that was read
row_within : (clerks : ℕ) (names : CourtNames) (fields : List (List ℕ)) (row : Row) → office_row_of clerks names fields ≡ Ok row → IsOfClerk clerks row
unfolding office_row_of
row_within clerks names fields row h = by (list_all is_utf8 fields) (ltb (length fields) 2) (clerk_of clerks (column fields 1)) refl (office_work_of names fields) h
  where
    by : (text few : Bool) (found : Option ℕ) → clerk_of clerks (column fields 1) ≡ found → (work : Result Work RowCause)
        → cond (not text) (Err NotText) (cond few (Err WrongCount) (ok_or found BadClerk >>= (λ clerk. work >>= (λ work. Ok (record { clerk = clerk; work = work }))))) ≡ Ok row
        → IsOfClerk clerks row
    by false few found same work e = cc e
    by true true found same work e = cc e
    by true false None same work e = cc e
    by true false (Some clerk) same (Err cause) e = cc e
    by true false (Some clerk) same (Ok work) e =
        let is_clerk : clerk ≡ row.clerk = cc e in
        let within = clerk_within clerks (column fields 1) clerk same in
        record { from_one = omega arith; to_last = omega arith }

-- the rows of records
bounded : (clerks : ℕ) (names : CourtNames) (n : ℕ) (records : List (List (List ℕ))) (rows : List Row) → n ≤ most_rows + 1 → rows_read_from clerks names n records ≡ Ok rows
    → (length rows + n ≤ most_rows + 1) × All (IsOfClerk clerks) rows
unfolding rows_read_from
bounded clerks names n [] rows few h =
    let none : [] ≡ rows = cc h in
    rw (← none) (omega arith, All-nil (IsOfClerk clerks))
bounded clerks names n (fields ∷ more) rows few h =
    by (ltb most_rows n) refl (office_row_of clerks names fields) refl (rows_read_from clerks names (n + 1) more) (λ later small. bounded clerks names (n + 1) more later small) h
  where
    by : (past : Bool) → ltb most_rows n ≡ past → (r : Result Row RowCause) → office_row_of clerks names fields ≡ r → (rest : Result (List Row) (ℕ × RowCause))
        → ((later : List Row) → n + 1 ≤ most_rows + 1 → rest ≡ Ok later → (length later + (n + 1) ≤ most_rows + 1) × All (IsOfClerk clerks) later)
        → (in_row n (cond past (Err TooManyRows) r) >>= (λ row. rest >>= (λ rows. Ok (row ∷ rows)))) ≡ Ok rows
        → (length rows + n ≤ most_rows + 1) × All (IsOfClerk clerks) rows
    by true past r spelled rest later e = cc e
    by false past (Err cause) spelled rest later e = cc e
    by false past (Ok row) spelled (Err fault) later e = cc e
    by false past (Ok row) spelled (Ok others) later e =
        let small : n + 1 ≤ most_rows + 1 = grind (arith, nat_tests) in
        let rest = later others small refl in
        let count = rest.0 in
        let same : row ∷ others ≡ rows = cc e in
        rw (← same) (omega arith, All-cons (IsOfClerk clerks) row others (row_within clerks names fields row spelled) rest.1)

pub rows_are_bounded_lem : RowsAreBounded
unfolding rows_read
rows_are_bounded_lem clerks names bytes rows h =
    let found = bounded clerks names 1 _ rows (omega arith) h in
    let count = found.0 in
    (omega arith, found.1)
