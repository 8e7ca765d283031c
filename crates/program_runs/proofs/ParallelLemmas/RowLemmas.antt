-- The rows of records in two parts.
use Rattle.std.proofs.Common.{◌≡◌, ◌++◌, ◌+◌, ◌≤◌, ◌<◌, ◌∙◌, ℕ, suc, Bool, true, false, List, [], ◌∷◌, Result, Ok, Err, length, cond, leb, le-leb, le-ltb, ltb, refl, sym, ap, arith}
use Rattle.std.proofs.lemmas.Bool.Decides.{nat_tests}
use Rattle.row_forms.specs.declared.row.Row.{Row}
use Rattle.row_forms.specs.declared.fault.RowCause.{RowCause}
use Rattle.row_forms.specs.declared.fault.RowCause.TheVariants.{TooManyRows}
use Rattle.row_forms.specs.declared.fault.RowError.{RowError}
use Rattle.row_forms.specs.declared.fault.RowError.TheVariants.{Fault, OutOfMemory}
use Rattle.row_forms.specs.Columns.{◌>>=◌}
use Rattle.row_forms.specs.CourtNames.{CourtNames}
use Rattle.row_forms.specs.Rows.{AnswersRows, in_row, most_rows, numbered_row, office_row_of, rows_read_from}
use Rattle.row_forms.proofs.RowsLemmas.{behind_rows, behind_nothing}
use Rattle.program_runs.specs.Inside.Joining.{error_after}

abbrev Rows : Type 0
Rows = Result (List Row) (ℕ × RowCause)

-- a row, and then the rows after it
abbrev then_rows : Row → Rows → Rows
then_rows row rest = rest >>= (λ rows. Ok (row ∷ rows))

-- the rows from one that was read, or its fault
abbrev from_row : Result Row (ℕ × RowCause) → Rows → Rows
from_row first rest = first >>= (λ row. then_rows row rest)

-- a fault in the first part is the fault of the whole
pub fault_first : (clerks : ℕ) (names : CourtNames) (number : ℕ) (firsts laters : List (List (List ℕ))) (fault : ℕ × RowCause)
    → rows_read_from clerks names number firsts ≡ Err fault → rows_read_from clerks names number (firsts ++ laters) ≡ Err fault
unfolding rows_read_from
fault_first clerks names number [] laters fault h = cc h
fault_first clerks names number (fields ∷ firsts) laters fault h =
    by (numbered_row clerks names number fields) (rows_read_from clerks names (number + 1) firsts) refl h (fault_first clerks names (number + 1) firsts laters)
  where
    by : (first : Result Row (ℕ × RowCause)) (rest : Rows) → rows_read_from clerks names (number + 1) firsts ≡ rest → from_row first rest ≡ Err fault
        → ((other : ℕ × RowCause) → rows_read_from clerks names (number + 1) firsts ≡ Err other → rows_read_from clerks names (number + 1) (firsts ++ laters) ≡ Err other)
        → from_row first (rows_read_from clerks names (number + 1) (firsts ++ laters)) ≡ Err fault
    by (Err other) rest e h more = h
    by (Ok row) (Ok rows) e h more = cc h
    by (Ok row) (Err other) e h more = rw (more other e) h

-- after a first part without one the rows of the whole go on
pub rows_first : (clerks : ℕ) (names : CourtNames) (number : ℕ) (firsts laters : List (List (List ℕ))) (rows : List Row)
    → rows_read_from clerks names number firsts ≡ Ok rows → rows_read_from clerks names number (firsts ++ laters) ≡ behind_rows rows (rows_read_from clerks names (number + length rows) laters)
unfolding rows_read_from
rows_first clerks names number [] laters rows h =
    let none : [] ≡ rows = cc h in
    let same : number + 0 ≡ number = omega arith in
    rw (← none, same) (sym (behind_nothing (rows_read_from clerks names number laters)))
rows_first clerks names number (fields ∷ firsts) laters rows h =
    by (numbered_row clerks names number fields) (rows_read_from clerks names (number + 1) firsts) refl h (rows_first clerks names (number + 1) firsts laters)
  where
    all : (row : Row) (before : List Row) (rest : Rows) → then_rows row (behind_rows before rest) ≡ behind_rows (row ∷ before) rest
    all row before (Ok rows) = refl
    all row before (Err fault) = refl

    by : (first : Result Row (ℕ × RowCause)) (rest : Rows) → rows_read_from clerks names (number + 1) firsts ≡ rest → from_row first rest ≡ Ok rows
        → ((before : List Row) → rows_read_from clerks names (number + 1) firsts ≡ Ok before → rows_read_from clerks names (number + 1) (firsts ++ laters) ≡ behind_rows before (rows_read_from clerks names (number + 1 + length before) laters))
        → from_row first (rows_read_from clerks names (number + 1) (firsts ++ laters)) ≡ behind_rows rows (rows_read_from clerks names (number + length rows) laters)
    by (Err other) rest e h more = cc h
    by (Ok row) (Err other) e h more = cc h
    by (Ok row) (Ok before) e h more =
        let same : row ∷ before ≡ rows = cc h in
        let next : number + 1 + length before ≡ number + suc (length before) = omega arith in
        rw (← same, more before e, next) (all row before (rows_read_from clerks names (number + suc (length before)) laters))

-- a fault is that of no earlier row
fault_later : (clerks : ℕ) (names : CourtNames) (number : ℕ) (records : List (List (List ℕ))) (fault : ℕ × RowCause) → rows_read_from clerks names number records ≡ Err fault → number ≤ fault.0
unfolding rows_read_from
fault_later clerks names number [] fault h = cc h
fault_later clerks names number (fields ∷ records) fault h =
    by (ltb most_rows number) (office_row_of clerks names fields) (rows_read_from clerks names (number + 1) records) refl h (fault_later clerks names (number + 1) records)
  where
    own : (cause : RowCause) → ◌≡◌ {A = Rows} (Err (number, cause)) (Err fault) → number ≤ fault.0
    own cause h =
        let same : (number, cause) ≡ fault = cc h in
        rw (← same) (omega arith)

    by : (many : Bool) (spelled : Result Row RowCause) (rest : Rows) → rows_read_from clerks names (number + 1) records ≡ rest
        → from_row (in_row number (cond many (Err TooManyRows) spelled)) rest ≡ Err fault
        → ((other : ℕ × RowCause) → rows_read_from clerks names (number + 1) records ≡ Err other → number + 1 ≤ other.0)
        → number ≤ fault.0
    by true spelled rest e h more = own TooManyRows h
    by false (Err cause) rest e h more = own cause h
    by false (Ok row) (Ok rows) e h more = cc h
    by false (Ok row) (Err other) e h more =
        let same : other ≡ fault = cc h in
        let later = more other e in
        rw (← same) (omega arith)

-- the fault of a row too many
abbrev too_many : Rows
too_many = Err (most_rows + 1, TooManyRows)

-- what is read of records before which that many rows were read, if `number` was said to be the first one's number
abbrev pub moved : (before number : ℕ) → Rows → Rows
moved before number (Ok rows) = cond (leb (before + number + length rows) (most_rows + 1)) (Ok rows) too_many
moved before number (Err fault) = cond (leb (before + fault.0) most_rows) (Err (before + fault.0, fault.1)) too_many

leb_false : (m n : ℕ) → n < m → leb m n ≡ false
leb_false m n h = grind (arith, nat_tests)

-- a row and those after it are as many as the whole
then_moved : (before number : ℕ) (row : Row) (rest : Rows) → then_rows row (moved before (number + 1) rest) ≡ moved before number (then_rows row rest)
then_moved before number row (Ok rows) =
    let same : before + (number + 1) + length rows ≡ before + number + suc (length rows) = omega arith in
    rw same (by (leb (before + number + suc (length rows)) (most_rows + 1)))
  where
    by : (b : Bool) → then_rows row (cond b (Ok rows) too_many) ≡ cond b (Ok (row ∷ rows)) too_many
    by true = refl
    by false = refl
then_moved before number row (Err fault) = by (leb (before + fault.0) most_rows)
  where
    by : (b : Bool) → then_rows row (cond b (Err (before + fault.0, fault.1)) too_many) ≡ cond b (Err (before + fault.0, fault.1)) too_many
    by true = refl
    by false = refl

-- a number that is past the most
past_most : (before number : ℕ) (records : List (List (List ℕ))) (clerks : ℕ) (names : CourtNames) (fields : List (List ℕ)) (all : Rows) → rows_read_from clerks names number (fields ∷ records) ≡ all
    → most_rows < before + number → moved before number all ≡ too_many
unfolding rows_read_from
past_most before number records clerks names fields (Err fault) e past =
    let later = fault_later clerks names number (fields ∷ records) fault e in
    rw (leb_false (before + fault.0) most_rows (omega arith)) refl
past_most before number records clerks names fields (Ok rows) e past = by rows (some (numbered_row clerks names number fields) (rows_read_from clerks names (number + 1) records) rows e)
  where
    some : (first : Result Row (ℕ × RowCause)) (rest : Rows) (rows : List Row) → from_row first rest ≡ Ok rows → 0 < length rows
    some (Err fault) rest rows h = cc h
    some (Ok row) (Err fault) rows h = cc h
    some (Ok row) (Ok more) rows h =
        let same : row ∷ more ≡ rows = cc h in
        rw (← same) (omega arith)

    by : (rows : List Row) → 0 < length rows → moved before number (Ok rows) ≡ too_many
    by rows some = rw (leb_false (before + number + length rows) (most_rows + 1) (omega arith)) refl

pub rows_moved : (clerks : ℕ) (names : CourtNames) (before number : ℕ) (records : List (List (List ℕ))) → before + number ≤ most_rows + 1
    → rows_read_from clerks names (before + number) records ≡ moved before number (rows_read_from clerks names number records)
unfolding rows_read_from
rows_moved clerks names before number [] few = rw (le-leb (before + number + 0) (most_rows + 1) (omega arith)) refl
rows_moved clerks names before number (fields ∷ records) few = by (ltb most_rows (before + number)) refl (λ less. rows_moved clerks names before (number + 1) records (omega arith))
  where
    whole : Rows
    whole = rows_read_from clerks names number (fields ∷ records)

    spelled : (s : Result Row RowCause) → before + number ≤ most_rows
        → rows_read_from clerks names (before + number + 1) records ≡ moved before (number + 1) (rows_read_from clerks names (number + 1) records)
        → from_row (in_row (before + number) s) (rows_read_from clerks names (before + number + 1) records) ≡ moved before number (from_row (in_row number s) (rows_read_from clerks names (number + 1) records))
    spelled (Err cause) less more = rw (le-leb (before + number) most_rows less) refl
    spelled (Ok row) less more = rw more (then_moved before number row (rows_read_from clerks names (number + 1) records))

    by : (many : Bool) → ltb most_rows (before + number) ≡ many
        → (before + number ≤ most_rows → rows_read_from clerks names (before + (number + 1)) records ≡ moved before (number + 1) (rows_read_from clerks names (number + 1) records))
        → from_row (in_row (before + number) (cond many (Err TooManyRows) (office_row_of clerks names fields))) (rows_read_from clerks names (before + number + 1) records) ≡ moved before number whole
    by true e more =
        let past : most_rows < before + number = grind (arith, nat_tests) in
        let last : before + number ≡ most_rows + 1 = omega arith in
        rw last (sym (past_most before number records clerks names fields whole refl past))
    by false e more =
        let less : before + number ≤ most_rows = grind (arith, nat_tests) in
        let next : before + (number + 1) ≡ before + number + 1 = omega arith in
        rw (le-ltb most_rows number (omega arith)) (spelled (office_row_of clerks names fields) less (rw next at more less))

-- the rows of both parts, of which the first has no fault
pub rows_joined : (clerks : ℕ) (names : CourtNames) (firsts laters : List (List (List ℕ))) (rows : List Row) → rows_read_from clerks names 1 firsts ≡ Ok rows → length rows ≤ most_rows
    → rows_read_from clerks names 1 (firsts ++ laters) ≡ behind_rows rows (moved (length rows) 1 (rows_read_from clerks names 1 laters))
rows_joined clerks names firsts laters rows h few =
    let next : 1 + length rows ≡ length rows + 1 = omega arith in
    rows_first clerks names 1 firsts laters rows h ∙ rw (next, rows_moved clerks names (length rows) 1 laters (omega arith)) refl

-- what both parts come to, by what the later one came to
pub later_rows : (rows more : List Row) → length rows + length more ≤ most_rows → behind_rows rows (moved (length rows) 1 (Ok more)) ≡ Ok (rows ++ more)
later_rows rows more few = rw (le-leb (length rows + 1 + length more) (most_rows + 1) (omega arith)) refl

pub many_later : (rows more : List Row) → most_rows < length rows + length more → behind_rows rows (moved (length rows) 1 (Ok more)) ≡ too_many
many_later rows more many = rw (leb_false (length rows + 1 + length more) (most_rows + 1) (omega arith)) refl

own_error : {X : Type 0} (view : X → List Row) (rows : List Row) (error : RowError) (defined : Rows) → AnswersRows view (Err error) defined → AnswersRows view (Err (error_after (length rows) error)) (behind_rows rows (moved (length rows) 1 defined))
own_error view rows OutOfMemory defined answers = tt
own_error view rows (Fault number cause) defined answers = rw answers (by (leb (length rows + number) most_rows))
  where
    by : (few : Bool) → AnswersRows view (Err (cond few (Fault (length rows + number) cause) (Fault (most_rows + 1) TooManyRows))) (behind_rows rows (cond few (Err (length rows + number, cause)) too_many))
    by true = refl
    by false = refl

pub later_error : {X : Type 0} (view : X → List Row) (rows : List Row) (error told : RowError) (before : ℕ) (defined : Rows) → told ≡ error_after before error → before ≡ length rows → AnswersRows view (Err error) defined
    → AnswersRows view (Err told) (behind_rows rows (moved (length rows) 1 defined))
later_error view rows error told before defined same count answers =
    let is : told ≡ error_after (length rows) error = same ∙ ap (λ n. error_after n error) count in
    rw is (own_error view rows error defined answers)
