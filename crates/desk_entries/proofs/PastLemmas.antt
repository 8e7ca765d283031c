-- The rows that are struck, after one more entry, and the corrections so far.
use Rattle.std.proofs.Common.{◌≡◌, ◌∙◌, ◌+◌, ◌<◌, ◌≤◌, ◌++◌, ◌∷◌, ◌||◌, ℕ, List, [], Option, Some, None, length, length-append, refl, sym, ap, arith}
use Rattle.std.specs.Prelude.{Bool, Vec, drop, false, get_or, is_none, option_map, true}
use Rattle.std.specs.declared.alloc.Global.{Global}
use Rattle.std.proofs.lemmas.List.{at_drop_all, at_drop_more}
use Rattle.desk_numbers.specs.declared.moved.Moved.{Moved}
use Rattle.desk_register.specs.declared.standing.Standing.{Standing}
use Rattle.case_numbers.specs.Words.{after_name}
use Rattle.row_forms.specs.Words.{names_of}
use Rattle.row_forms.specs.Line.Words.{line_read}
use Rattle.desk_register.specs.Words.{Note, most_clerks, next_number, note_in, row_entries, row_only, rows_with}
use Rattle.desk_journal.specs.Words.{batch_of}
use Rattle.desk_entries.specs.declared.past.Corrected.{Corrected}
use Rattle.desk_entries.specs.Past.{corrected_by, corrected_with, is_restored, is_struck_first, noted_after, restores_it, row_struck_as, row_struck_said, rows_struck, strikes_first, strikes_it}
use Rattle.desk_register.proofs.CallerLemmas.{row_entries-more}

-- what is struck of an entry that is a row, and of one that is none
pub one_row_struck : (under : Standing) (moved : List Moved) (number : ℕ) (entry : List ℕ) (later : List (List ℕ)) → is_none (note_in entry) ≡ true
    → row_struck_said under moved number entry (line_read most_clerks (names_of under.court) (after_name entry)) later ≡ row_struck_as (note_in entry) under moved number entry later
one_row_struck under moved number entry later row = by (note_in entry) row
  where
    by : (n : Option Note) → is_none n ≡ true → row_struck_said under moved number entry (line_read most_clerks (names_of under.court) (after_name entry)) later ≡ row_struck_as n under moved number entry later
    by None h = refl
    by (Some note) h = cc h

pub no_row_struck : (under : Standing) (moved : List Moved) (number : ℕ) (entry : List ℕ) (later : List (List ℕ)) → is_none (note_in entry) ≡ false → row_struck_as (note_in entry) under moved number entry later ≡ []
no_row_struck under moved number entry later noted = by (note_in entry) noted
  where
    by : (n : Option Note) → is_none n ≡ false → row_struck_as n under moved number entry later ≡ []
    by None h = cc h
    by (Some note) h = refl

-- and how many rows it is
pub none_counted : (entry : List ℕ) (number : ℕ) → is_none (note_in entry) ≡ false → number ≡ number + length (row_only (note_in entry) entry)
none_counted entry number noted = by (note_in entry) noted
  where
    by : (n : Option Note) → is_none n ≡ false → number ≡ number + length (row_only n entry)
    by None h = cc h
    by (Some note) h = omega arith

pub one_counted : (entry : List ℕ) (number : ℕ) → is_none (note_in entry) ≡ true → number + 1 ≡ number + length (row_only (note_in entry) entry)
one_counted entry number row = by (note_in entry) row
  where
    by : (n : Option Note) → is_none n ≡ true → number + 1 ≡ number + length (row_only n entry)
    by None h = omega arith
    by (Some note) h = cc h

-- the number of the row after one entry more
pub number_more : (kept : List (List ℕ)) (entry : List ℕ) (number then : ℕ) → 0 < length kept → number ≡ next_number kept → then ≡ number + length (row_only (note_in entry) entry) → then ≡ next_number (kept ++ entry ∷ [])
number_more kept entry number then begun next is =
    omega (arith, next, is, ap length (row_entries-more kept entry begun), length-append (row_entries kept) (row_only (note_in entry) entry))

-- the first of the entries that are left
pub rows_struck-next : (under : Standing) (moved : List Moved) (number : ℕ) (entries : List (Vec ℕ Global)) (place : ℕ) (entry : Vec ℕ Global) → place < length entries → entry ≡ get_or entries place entry
    → rows_struck under moved number (batch_of (drop place entries))
    ≡ row_struck_as (note_in entry.items) under moved number entry.items (batch_of (drop (place + 1) entries)) ++ rows_struck under moved (rows_with (note_in entry.items) number) (batch_of (drop (place + 1) entries))
unfolding rows_struck
rows_struck-next under moved number entries place entry lt is =
    at_drop_more (λ (l : List (Vec ℕ Global)). rows_struck under moved number (batch_of l)) entries place entry lt
    ∙ ap (λ (e : Vec ℕ Global). row_struck_as (note_in e.items) under moved number e.items (batch_of (drop (place + 1) entries)) ++ rows_struck under moved (rows_with (note_in e.items) number) (batch_of (drop (place + 1) entries))) (sym is)

pub all_struck : (under : Standing) (moved : List Moved) (number : ℕ) (entries : List (Vec ℕ Global)) (place : ℕ) → length entries ≤ place → rows_struck under moved number (batch_of (drop place entries)) ≡ []
unfolding rows_struck
all_struck under moved number entries place le = at_drop_all (λ (l : List (Vec ℕ Global)). rows_struck under moved number (batch_of l)) entries place le

-- whether a row is struck first, by the first of the entries that are left
pub struck_first_next : (number : ℕ) (entries : List (Vec ℕ Global)) (place : ℕ) (entry : Vec ℕ Global) → place < length entries → entry ≡ get_or entries place entry
    → is_struck_first number (batch_of (drop place entries)) ≡ strikes_first number (note_in entry.items) (is_struck_first number (batch_of (drop (place + 1) entries)))
unfolding is_struck_first
struck_first_next number entries place entry lt is =
    at_drop_more (λ (l : List (Vec ℕ Global)). is_struck_first number (batch_of l)) entries place entry lt
    ∙ ap (λ (e : Vec ℕ Global). strikes_first number (note_in e.items) (is_struck_first number (batch_of (drop (place + 1) entries)))) (sym is)

pub none_struck_first : (number : ℕ) (entries : List (Vec ℕ Global)) (place : ℕ) → length entries ≤ place → is_struck_first number (batch_of (drop place entries)) ≡ false
unfolding is_struck_first
none_struck_first number entries place le = at_drop_all (λ (l : List (Vec ℕ Global)). is_struck_first number (batch_of l)) entries place le

-- where the first of them is a note, and where it is a row
pub strikes_found : (number : ℕ) (note : Option Note) (others strikes : Bool) → Some strikes ≡ option_map (strikes_it number) note → strikes_first number note others ≡ strikes
strikes_found number None others strikes is = cc is
strikes_found number (Some note) others strikes is = cc is

pub strikes_none : (number : ℕ) (note : Option Note) (others : Bool) → None ≡ option_map (strikes_it number) note → strikes_first number note others ≡ others
strikes_none number None others is = refl
strikes_none number (Some note) others is = cc is

-- whether a row is restored, by the first of the entries that are left
pub restored_next : (number : ℕ) (entries : List (Vec ℕ Global)) (place : ℕ) (entry : Vec ℕ Global) → place < length entries → entry ≡ get_or entries place entry
    → is_restored number (batch_of (drop place entries)) ≡ (restores_it number (note_in entry.items) || is_restored number (batch_of (drop (place + 1) entries)))
unfolding is_restored
restored_next number entries place entry lt is =
    at_drop_more (λ (l : List (Vec ℕ Global)). is_restored number (batch_of l)) entries place entry lt
    ∙ ap (λ (e : Vec ℕ Global). restores_it number (note_in e.items) || is_restored number (batch_of (drop (place + 1) entries))) (sym is)

pub none_restored : (number : ℕ) (entries : List (Vec ℕ Global)) (place : ℕ) → length entries ≤ place → is_restored number (batch_of (drop place entries)) ≡ false
unfolding is_restored
none_restored number entries place le = at_drop_all (λ (l : List (Vec ℕ Global)). is_restored number (batch_of l)) entries place le

-- what is counted of an entry that is a row, and of one that is a note
pub row_counted : (entry : List ℕ) (rows : ℕ) → is_none (note_in entry) ≡ true → rows + 1 ≡ rows_with (note_in entry) rows
row_counted entry rows row = by (note_in entry) row
  where
    by : (n : Option Note) → is_none n ≡ true → rows + 1 ≡ rows_with n rows
    by None h = refl
    by (Some note) h = cc h

pub note_counted : (entry : List ℕ) (rows : ℕ) → is_none (note_in entry) ≡ false → rows ≡ rows_with (note_in entry) rows
note_counted entry rows noted = by (note_in entry) noted
  where
    by : (n : Option Note) → is_none n ≡ false → rows ≡ rows_with n rows
    by None h = cc h
    by (Some note) h = refl

pub row_corrected : (entry : List ℕ) (rows : ℕ) (before : Corrected) → is_none (note_in entry) ≡ true → before ≡ corrected_with (note_in entry) rows before
row_corrected entry rows before row = by (note_in entry) row
  where
    by : (n : Option Note) → is_none n ≡ true → before ≡ corrected_with n rows before
    by None h = refl
    by (Some note) h = cc h

pub note_corrected : (entry : List ℕ) (rows : ℕ) (before : Corrected) → is_none (note_in entry) ≡ false → noted_after rows before ≡ corrected_with (note_in entry) rows before
note_corrected entry rows before noted = by (note_in entry) noted
  where
    by : (n : Option Note) → is_none n ≡ false → noted_after rows before ≡ corrected_with n rows before
    by None h = cc h
    by (Some note) h = refl

-- each entry counts once at most
pub rows_few : (n : Option Note) (rows : ℕ) → rows_with n rows ≤ rows + 1
rows_few None rows = omega arith
rows_few (Some note) rows = omega arith

pub count_few : (n : Option Note) (rows : ℕ) (before : Corrected) → (corrected_with n rows before).count ≤ before.count + 1
count_few None rows before = omega arith
count_few (Some note) rows before = omega arith

-- the first of the entries that are left
pub corrected_more : (rows : ℕ) (before : Corrected) (entries : List (Vec ℕ Global)) (place : ℕ) (entry : Vec ℕ Global) → place < length entries → entry ≡ get_or entries place entry
    → corrected_by rows before (batch_of (drop place entries)) ≡ corrected_by (rows_with (note_in entry.items) rows) (corrected_with (note_in entry.items) rows before) (batch_of (drop (place + 1) entries))
unfolding corrected_by
corrected_more rows before entries place entry lt is =
    at_drop_more (λ (l : List (Vec ℕ Global)). corrected_by rows before (batch_of l)) entries place entry lt
    ∙ ap (λ (e : Vec ℕ Global). corrected_by (rows_with (note_in e.items) rows) (corrected_with (note_in e.items) rows before) (batch_of (drop (place + 1) entries))) (sym is)

pub all_corrected : (rows : ℕ) (before : Corrected) (entries : List (Vec ℕ Global)) (place : ℕ) → length entries ≤ place → corrected_by rows before (batch_of (drop place entries)) ≡ before
unfolding corrected_by
all_corrected rows before entries place le = at_drop_all (λ (l : List (Vec ℕ Global)). corrected_by rows before (batch_of l)) entries place le

-- the entries after the first
pub later_batch : (entries : List (Vec ℕ Global)) → batch_of (drop 1 entries) ≡ drop 1 (batch_of entries)
later_batch [] = refl
later_batch (entry ∷ entries) = refl
