-- The strike of a row, found among entries, and the restore of one that is struck.
use Rattle.std.proofs.Common.{◌≡◌, ◌∙◌, ◌+◌, ◌-◌, ◌<◌, ◌≤◌, ◌&&◌, ℕ, zero, suc, Bool, true, false, cond, List, [], ◌∷◌, ◌++◌, Option, Some, None, Ok, Err, drop, get_or, length, refl, sym, ap, arith}
use Rattle.std.specs.Prelude.{All, Vec, nat_eq, nat_lt, slice_index_or}
use Rattle.std.specs.declared.alloc.Global.{Global}
use Rattle.std.proofs.lemmas.List.{at_drop_more, drop_all}
use Rattle.desk_journal.specs.Words.{batch_of}
use Rattle.std.proofs.lemmas.Bool.Decides.{nat_tests}
use Rattle.case_numbers.specs.Words.{after_name}
use Rattle.row_forms.specs.declared.row.Work.{Work}
use Rattle.row_forms.specs.declared.row.Work.TheVariants.{Command, Query}
use Rattle.row_forms.specs.Words.{names_of}
use Rattle.row_forms.specs.declared.line.line.Line.{Line}
use Rattle.row_forms.specs.declared.line.line.Line.TheVariants as line
use Rattle.row_forms.specs.Line.Words.{line_read}
use Rattle.desk_numbers.specs.declared.said.Said.{Said}
use Rattle.desk_numbers.specs.declared.strikes.restore.Restore.{Restore}
use Rattle.desk_numbers.specs.declared.strikes.strike.Strike.{Strike}
use Rattle.desk_numbers.specs.Strikes.Words.{Fits, is_among, is_struck, restore_entry, row_after, said_in, strike_entry, strike_in}
use Rattle.desk_numbers.proofs.StrikesLemmas.CallerLemmas.{restores_back, strikes_back}
use Rattle.desk_register.specs.declared.fault.StrikeFault.TheVariants.{AlreadyStruck, NoSuchRow, NotStruck}
use Rattle.desk_register.specs.declared.standing.Standing.{Standing}
use Rattle.desk_register.specs.Entries.{Note, can_restore, can_strike, most_clerks, most_entries, next_number, note_in, later_file, row_only, row_restored, row_struck, rows_among, struck_in}
use Rattle.desk_register.specs.History.{StandsAfter}
use Rattle.desk_register.specs.Striking.{entry_at, has_row, restore_for, rows_left, strike_as, strike_for, strike_said}
use Rattle.desk_register.proofs.ListLemmas.{next_number-few, restore_noted, strike_noted}

-- the row that is looked for, among entries of which this is the first
pub is_first : (entry : List ℕ) (later : List (List ℕ)) (left : ℕ) → rows_left (note_in entry) left ≡ None → slice_index_or (rows_among (entry ∷ later)) left [] ≡ entry
unfolding rows_among
is_first entry later left is = by (note_in entry) left is
  where
    by : (n : Option Note) (left : ℕ) → rows_left n left ≡ None → slice_index_or (row_only n entry ++ rows_among later) left [] ≡ entry
    by (Some note) left is = cc is
    by None zero is = refl
    by None (suc left) is = let some : nat_eq (suc left) 0 ≡ false = grind (arith, nat_tests) in cc (rw some at is)

pub is_later : (entry : List ℕ) (later : List (List ℕ)) (left next : ℕ) → rows_left (note_in entry) left ≡ Some next → slice_index_or (rows_among (entry ∷ later)) left [] ≡ slice_index_or (rows_among later) next []
unfolding rows_among
is_later entry later left next is = by (note_in entry) left is
  where
    by : (n : Option Note) (left : ℕ) → rows_left n left ≡ Some next → slice_index_or (row_only n entry ++ rows_among later) left [] ≡ slice_index_or (rows_among later) next []
    by (Some note) left is = let same : left ≡ next = cc is in ap (λ n. slice_index_or (rows_among later) n []) same
    by None zero is = cc is
    by None (suc left) is =
        let some : nat_eq (suc left) 0 ≡ false = grind (arith, nat_tests) in
        let before : Some (suc left - 1) ≡ Some next = rw some at is in
        let same : suc left - 1 ≡ next = cc before in
        let one_less : left ≡ next = omega (arith, same) in
        ap (λ n. slice_index_or (rows_among later) n []) one_less

-- entries from a place on
pub on_from : (entries : List (Vec ℕ Global)) (place : ℕ) (entry : Vec ℕ Global) → place < length entries → entry ≡ get_or entries place entry → batch_of (drop place entries) ≡ entry.items ∷ batch_of (drop (place + 1) entries)
on_from entries place entry within at =
    at_drop_more batch_of entries place entry within ∙ ap (λ (e : Vec ℕ Global). e.items ∷ batch_of (drop (place + 1) entries)) (sym at)

-- after all of them there is none
pub none_there : (entries : List (Vec ℕ Global)) (place left : ℕ) → length entries ≤ place → slice_index_or (rows_among (batch_of (drop place entries))) left [] ≡ []
unfolding rows_among
none_there entries place left past = ap (λ (l : List (Vec ℕ Global)). slice_index_or (rows_among (batch_of l)) left []) (drop_all place entries past) ∙ nothing left
  where
    nothing : (n : ℕ) → slice_index_or (rows_among []) n [] ≡ []
    nothing zero = refl
    nothing (suc n) = refl

-- before the first row
pub from_first : (entries : List (Vec ℕ Global)) (row : ℕ) → slice_index_or (rows_among (batch_of (drop 1 entries))) (row - 1) [] ≡ entry_at (batch_of entries) row
from_first [] row = refl
from_first (entry ∷ entries) row = refl

-- what the strike of a row comes to, by what stands
pub no_such_row : (under : Standing) (kept : List (List ℕ)) (row : ℕ) → has_row kept row ≡ false → Err NoSuchRow ≡ strike_for under kept row
unfolding strike_for
no_such_row under kept row none = rw none refl

pub row_struck_already : (under : Standing) (kept : List (List ℕ)) (row : ℕ) → has_row kept row ≡ true → is_struck under.corrections row ≡ true → Err AlreadyStruck ≡ strike_for under kept row
unfolding strike_for
row_struck_already under kept row there struck = rw (there, struck) refl

pub row_found : (under : Standing) (kept : List (List ℕ)) (row : ℕ) → has_row kept row ≡ true → is_struck under.corrections row ≡ false
    → strike_said row (line_read most_clerks (names_of under.court) (after_name (entry_at kept row))) ≡ strike_for under kept row
unfolding strike_for
row_found under kept row there live = rw (there, live) refl

-- the strike of a row that can be struck names it
of_line : (row : ℕ) (said : Line) (strike : Strike) → strike_said row said ≡ Ok strike → strike.row ≡ row
of_line row line.Blank strike is = cc is
of_line row (line.Fault cause) strike is = cc is
of_line row (line.Row said) strike is = of_work said.work is
  where
    of_work : (asked : Work) → strike_as row asked ≡ Ok strike → strike.row ≡ row
    of_work (Command command) is = let same : record { row = row } ≡ strike = cc is in ap (λ (s : Strike). s.row) (sym same)
    of_work (Query query) is = cc is

-- such a row was entered, and isn't struck
is_there : (under : Standing) (kept : List (List ℕ)) (row : ℕ) (strike : Strike) → strike_for under kept row ≡ Ok strike
    → (has_row kept row ≡ true) × (is_struck under.corrections row ≡ false) × (strike.row ≡ row)
unfolding strike_for
is_there under kept row strike is = by (has_row kept row) (is_struck under.corrections row) refl refl is
  where
    said : Line
    said = line_read most_clerks (names_of under.court) (after_name (entry_at kept row))

    by : (a b : Bool) → has_row kept row ≡ a → is_struck under.corrections row ≡ b → cond a (cond b (Err AlreadyStruck) (strike_said row said)) (Err NoSuchRow) ≡ Ok strike
        → (has_row kept row ≡ true) × (is_struck under.corrections row ≡ false) × (strike.row ≡ row)
    by true true there struck h = cc h
    by true false there live h = (there, live, of_line row said strike h)
    by false b there struck h = cc h

both_true : (a b : Bool) → (a && b) ≡ true → (a ≡ true) × (b ≡ true)
both_true true true h = (refl, refl)
both_true true false h = cc h
both_true false b h = cc h

-- an entry that is a strike is no court's file
later_file-strike : (strike : Strike) (said : List Said) (remark : List ℕ) → later_file (strike_entry strike said remark) ≡ None
unfolding strike_entry
later_file-strike strike said remark = refl

-- it can be struck by what the entries say
can_be : (kept : List (List ℕ)) (strike : Strike) (row : ℕ) (struck : List ℕ) → struck ≡ struck_in kept → strike.row ≡ row → nat_lt 0 row ≡ true → nat_lt row (next_number kept) ≡ true → is_among struck row ≡ false → can_strike kept strike ≡ true
can_be kept strike row struck is same low before live = rw (same, low, before, ← is, live) refl

-- The entry of the strike of a row says it, and may follow.
pub strike_said_again : (under : Standing) (kept : List (List ℕ)) (row : ℕ) (strike : Strike) (said : List Said) (remark : List ℕ) → 0 < length kept → length kept ≤ most_entries → StandsAfter kept under → strike_for under kept row ≡ Ok strike → All Fits said
    → (note_in (strike_entry strike said remark) ≡ Some (row_struck strike)) × (can_strike kept strike ≡ true) × (said_in (strike_entry strike said remark) ≡ said)
strike_said_again under kept row strike said remark begun few stands is fits =
    let (there, live, same) = is_there under kept row strike is in
    let low = both_true (nat_lt 0 row) (nat_lt row (next_number kept)) there in
    let less : row < next_number kept = grind (arith, nat_tests) in
    let small : strike.row < 1_000_000_000 = omega (arith, same, less, next_number-few kept begun, few) in
    let again = strikes_back strike said remark small fits in (
      strike_noted (strike_entry strike said remark) strike (later_file-strike strike said remark) again.0,
      can_be kept strike row under.corrections.struck stands.struck same low.0 low.1 live,
      again.2,
    )

-- a row that can be restored was entered, and is struck
can_again : (under : Standing) (kept : List (List ℕ)) (row : ℕ) (restore : Restore) → restore_for under kept row ≡ Ok restore → (has_row kept row ≡ true) × (is_struck under.corrections row ≡ true) × (restore.row ≡ row)
unfolding restore_for
can_again under kept row restore is = by (has_row kept row) (is_struck under.corrections row) refl refl is
  where
    by : (a b : Bool) → has_row kept row ≡ a → is_struck under.corrections row ≡ b → cond a (cond b (Ok (record { row = row })) (Err NotStruck)) (Err NoSuchRow) ≡ Ok restore
        → (has_row kept row ≡ true) × (is_struck under.corrections row ≡ true) × (restore.row ≡ row)
    by true true there struck h = let same : record { row = row } ≡ restore = cc h in (there, struck, ap (λ (r : Restore). r.row) (sym same))
    by true false there live h = cc h
    by false b there struck h = cc h

-- an entry that is a restore is no court's file and no strike
later_file-restore : (restore : Restore) (said : List Said) (remark : List ℕ) → later_file (restore_entry restore said remark) ≡ None
unfolding restore_entry
later_file-restore restore said remark = refl

strike_in-restore : (restore : Restore) (said : List Said) (remark : List ℕ) → strike_in (restore_entry restore said remark) ≡ None
unfolding restore_entry strike_in row_after
strike_in-restore restore said remark = refl

-- The entry of the restore of a row says it, and may follow.
pub restore_said_again : (under : Standing) (kept : List (List ℕ)) (row : ℕ) (restore : Restore) (said : List Said) (remark : List ℕ) → 0 < length kept → length kept ≤ most_entries → StandsAfter kept under → restore_for under kept row ≡ Ok restore → All Fits said
    → (note_in (restore_entry restore said remark) ≡ Some (row_restored restore)) × (can_restore kept restore ≡ true) × (said_in (restore_entry restore said remark) ≡ said)
restore_said_again under kept row restore said remark begun few stands is fits =
    let (there, struck, same) = can_again under kept row restore is in
    let low = both_true (nat_lt 0 row) (nat_lt row (next_number kept)) there in
    let less : row < next_number kept = grind (arith, nat_tests) in
    let small : restore.row < 1_000_000_000 = omega (arith, same, less, next_number-few kept begun, few) in
    let again = restores_back restore said remark small fits in (
      restore_noted (restore_entry restore said remark) restore (later_file-restore restore said remark) (strike_in-restore restore said remark) again.0,
      rw (sym stands.struck, same, struck) refl,
      again.2,
    )
