-- Rows keep the numbers that they gave before the last correction.
use Rattle.std.proofs.Common.{◌≡◌, ◌∙◌, ◌+◌, ◌-◌, ◌<◌, ◌≤◌, ℕ, zero, suc, Bool, true, false, cond, List, [], ◌∷◌, ◌++◌, Option, Some, None, length, length-append, refl, sym, ap, subst, arith}
use Rattle.std.specs.Prelude.{nat_lt, slice_index_or}
use Rattle.std.proofs.lemmas.Bool.Decides.{nat_tests}
use Rattle.case_numbers.specs.Words.{after_name}
use Rattle.desk_numbers.specs.declared.given.Given.{Given}
use Rattle.desk_numbers.specs.Words.{NumbersView, given_by, kept_of, new_number, number_for, numbers_after, own_or, passed}
use Rattle.row_forms.specs.Words.{names_of}
use Rattle.row_forms.specs.declared.line.line.Line.{Line}
use Rattle.row_forms.specs.declared.line.line.Line.TheVariants as line
use Rattle.row_forms.specs.Line.Words.{line_read}
use Rattle.desk_numbers.specs.Strikes.Words.{is_struck}
use Rattle.desk_register.specs.declared.standing.Standing.{Standing}
use Rattle.desk_register.specs.Entries.{most_clerks, row_entries}
use Rattle.desk_register.specs.Laws.{KeepsNumber, RowsKeepTheirNumbers}
use Rattle.desk_register.specs.Run.{Run, opening_run, reply_by_places, run_after, run_by, run_entry, run_past, run_said}

-- as many rows gave something or nothing as came before this number, and each keeps what it kept
record AreKept (kept : List (Option Given)) (given : List (Option Given)) (number : ℕ) : Type 0 where
  count : length given + 1 ≡ number
  keep : (row : ℕ) (own : Given) → 0 < row → row < number → kept_of kept row ≡ Some own → KeepsNumber own (kept_of given row)

pub at_before : (given : List (Option Given)) (g : Option Given) (n : ℕ) → n < length given → slice_index_or (given ++ g ∷ []) n None ≡ slice_index_or given n None
at_before [] g n within = absurd (omega (arith, within))
at_before (x ∷ given) g zero within = refl
at_before (x ∷ given) g (suc n) within = at_before given g n (omega (arith, within))

pub at_end : (given : List (Option Given)) (g : Option Given) → slice_index_or (given ++ g ∷ []) (length given) None ≡ g
at_end [] g = refl
at_end (x ∷ given) g = at_end given g

-- after one row more
one_more : (kept given : List (Option Given)) (number : ℕ) (g : Option Given) → AreKept kept given number → ((own : Given) → kept_of kept number ≡ Some own → KeepsNumber own g) → AreKept kept (given ++ g ∷ []) (number + 1)
one_more kept given number g are here = record {
  count = omega (arith, length-append given (g ∷ []), are.count);
  keep = λ row own some within is. by row own some within is (nat_lt row number) refl;
}
  where
    by : (row : ℕ) (own : Given) → 0 < row → row < number + 1 → kept_of kept row ≡ Some own → (b : Bool) → nat_lt row number ≡ b → KeepsNumber own (kept_of (given ++ g ∷ []) row)
    by row own some within is true before =
        let less : row < number = grind (arith, nat_tests) in
        subst (KeepsNumber own) (sym (at_before given g (row - 1) (omega (arith, less, some, are.count)))) (are.keep row own some less is)
    by row own some within is false after =
        let same : row ≡ number = grind (arith, nat_tests) in
        let last : row - 1 ≡ length given = omega (arith, same, are.count) in
        subst (KeepsNumber own) (sym (ap (λ n. slice_index_or (given ++ g ∷ []) n None) last ∙ at_end given g)) (here own (ap (kept_of kept) (sym same) ∙ is))

-- a row that is passed over keeps its own, and one that gives something gives its own
past_one : (kept : List (Option Given)) (numbers : NumbersView) (number : ℕ) → AreKept kept numbers.given number → AreKept kept (passed kept numbers number).given (number + 1)
past_one kept numbers number are = one_more kept numbers.given number (kept_of kept number) are (λ own is. subst (KeepsNumber own) (sym is) refl)

after_one : (kept : List (Option Given)) (numbers : NumbersView) (number : ℕ) (at : Option Given) → AreKept kept numbers.given number → AreKept kept (numbers_after kept numbers number at).given (number + 1)
unfolding numbers_after
after_one kept numbers number None are = past_one kept numbers number are
after_one kept numbers number (Some at) are =
    one_more kept numbers.given number (Some (record { case = at.case; counted = at.counted; number = number_for kept numbers.moved number at })) are
    (λ own is. ap (λ o. own_or o (new_number kept numbers.moved at)) is)

said_one : (under : Standing) (run : Run) (number : ℕ) (said : Line) → AreKept under.corrections.kept run.numbers.given number → AreKept under.corrections.kept (run_said under run number said).numbers.given (number + 1)
said_one under run number line.Blank are = past_one under.corrections.kept run.numbers number are
said_one under run number (line.Fault cause) are = past_one under.corrections.kept run.numbers number are
said_one under run number (line.Row row) are = after_one under.corrections.kept run.numbers number (given_by row.work (reply_by_places under run.docketed run.numbers row.work)) are

entry_one : (under : Standing) (run : Run) (number : ℕ) (entry : List ℕ) → AreKept under.corrections.kept run.numbers.given number → AreKept under.corrections.kept (run_entry under run number entry).numbers.given (number + 1)
entry_one under run number entry are = by (is_struck under.corrections number)
  where
    by : (b : Bool) → AreKept under.corrections.kept (cond b (run_past under run number) (run_said under run number (line_read most_clerks (names_of under.court) (after_name entry)))).numbers.given (number + 1)
    by true = past_one under.corrections.kept run.numbers number are
    by false = said_one under run number (line_read most_clerks (names_of under.court) (after_name entry)) are

all_kept : (under : Standing) (run : Run) (number : ℕ) (entries : List (List ℕ)) → AreKept under.corrections.kept run.numbers.given number → AreKept under.corrections.kept (run_after under run number entries).numbers.given (number + length entries)
unfolding run_after
all_kept under run number [] are = subst (AreKept under.corrections.kept run.numbers.given) (add_none number) are
  where
    add_none : (n : ℕ) → n ≡ n + 0
    add_none n = omega arith
all_kept under run number (entry ∷ entries) are =
    subst (AreKept under.corrections.kept (run_after under (run_entry under run number entry) (number + 1) entries).numbers.given) (later number (length entries))
    (all_kept under (run_entry under run number entry) (number + 1) entries (entry_one under run number entry are))
  where
    later : (n m : ℕ) → (n + 1) + m ≡ n + suc m
    later n m = omega arith

first_kept : (kept : List (Option Given)) → AreKept kept [] 1
first_kept kept = record { count = refl; keep = λ row own some within is. absurd (omega (arith, some, within)) }

-- the law
pub rows_keep : RowsKeepTheirNumbers
unfolding run_by
rows_keep under kept row own some within is =
    let all = all_kept under (opening_run under) 1 (row_entries kept) (first_kept under.corrections.kept) in
    all.keep row own some (omega (arith, within)) is

-- as many rows gave something or nothing as there are
pub as_many_gave : (under : Standing) (kept : List (List ℕ)) → length (run_by under kept).numbers.given ≡ length (row_entries kept)
unfolding run_by
as_many_gave under kept = let all = all_kept under (opening_run under) 1 (row_entries kept) (first_kept under.corrections.kept) in omega (arith, all.count)

within_of : (given : List (Option Given)) (n : ℕ) (own : Given) → slice_index_or given n None ≡ Some own → n < length given
within_of [] n own is = cc is
within_of (g ∷ given) zero own is = omega arith
within_of (g ∷ given) (suc n) own is = omega (arith, within_of given n own is)

-- and each row that keeps a number gave one
gave_one : (under : Standing) (kept : List (List ℕ)) (place : ℕ) (own : Given) → length under.corrections.kept ≤ length (row_entries kept) → slice_index_or under.corrections.kept place None ≡ Some own → slice_index_or (run_by under kept).numbers.given place None ≡ None → ⊥
gave_one under kept place own few is none =
    let within : place < length under.corrections.kept = within_of under.corrections.kept place own is in
    let same : suc place - 1 ≡ place = omega arith in
    subst (KeepsNumber own) (ap (λ (n : ℕ). slice_index_or (run_by under kept).numbers.given n None) same ∙ none)
    (rows_keep under kept (suc place) own (omega arith) (omega (arith, within, few)) (ap (λ (n : ℕ). slice_index_or under.corrections.kept n None) same ∙ is))

pub kept_were_given : (under : Standing) (kept : List (List ℕ)) (row : ℕ) (own : Given) → length under.corrections.kept ≤ length (row_entries kept) → kept_of under.corrections.kept row ≡ Some own → kept_of (run_by under kept).numbers.given row ≡ None → ⊥
kept_were_given under kept row own few is none = gave_one under kept (row - 1) own few is none
