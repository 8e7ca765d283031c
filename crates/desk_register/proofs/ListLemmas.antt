-- Entries, after one more.
use Rattle.std.proofs.Common.{◌≡◌, ◌∙◌, ◌+◌, ◌<◌, ◌≤◌, ◌&&◌, ◌||◌, ℕ, suc, zero, Bool, true, false, cond, List, [], ◌∷◌, ◌++◌, Option, Some, None, drop, length, length-append, refl, sym, ap, append_assoc, append-nil, arith}
use Rattle.std.specs.Prelude.{IsSome, MatchOption, Vec, get_or, is_some, nat_eq, nat_lt, option_map, slice_get, take}
use Rattle.std.specs.declared.alloc.Global.{Global}
use Rattle.std.proofs.lemmas.List.{map-append, take-append-drop, take_more}
use Rattle.desk_journal.specs.Words.{batch_of}
use Rattle.std.specs.List.{list_all, list_any}
use Rattle.std.proofs.lemmas.Bool.Decides.{nat_tests}
use Rattle.desk_numbers.specs.declared.strikes.restore.Restore.{Restore}
use Rattle.desk_numbers.specs.declared.strikes.strike.Strike.{Strike}
use Rattle.desk_numbers.specs.Strikes.Words.{CorrectionsView, all_before, is_among, is_struck, restore_in, row_after, strike_in, struck_with}
use Rattle.desk_register.specs.Entries.{Note, court_file, file_after, file_with, later_file, next_number, note_in, note_of, row_entries, row_only, row_restored, row_struck, rows_among, standing_file, struck_after, struck_by, struck_in}

-- what begins with another byte is no court's file, no strike and no restore
pub no_note : (b : ℕ) (bytes : List ℕ) → nat_eq 37 b ≡ false → note_in (b ∷ bytes) ≡ None
unfolding strike_in restore_in row_after
no_note b bytes other = rw other refl

pub rows_among-append : (some more : List (List ℕ)) → rows_among (some ++ more) ≡ rows_among some ++ rows_among more
unfolding rows_among
rows_among-append [] more = refl
rows_among-append (entry ∷ some) more =
    ap (λ (rows : List (List ℕ)). row_only (note_in entry) entry ++ rows) (rows_among-append some more)
    ∙ sym (append_assoc (row_only (note_in entry) entry) (rows_among some) (rows_among more))

one_among : (entry : List ℕ) → rows_among (entry ∷ []) ≡ row_only (note_in entry) entry
unfolding rows_among
one_among entry = append-nil (row_only (note_in entry) entry)

-- what comes after the first
pub drop_first : (kept : List (List ℕ)) (entry : List ℕ) → 0 < length kept → drop 1 (kept ++ entry ∷ []) ≡ drop 1 kept ++ entry ∷ []
drop_first [] entry begun = absurd (omega (arith, begun))
drop_first (first ∷ kept) entry begun = refl

pub row_entries-more : (kept : List (List ℕ)) (entry : List ℕ) → 0 < length kept → row_entries (kept ++ entry ∷ []) ≡ row_entries kept ++ row_only (note_in entry) entry
row_entries-more kept entry begun =
    ap rows_among (drop_first kept entry begun)
    ∙ rows_among-append (drop 1 kept) (entry ∷ [])
    ∙ ap (λ (rows : List (List ℕ)). rows_among (drop 1 kept) ++ rows) (one_among entry)

-- a row's entry is one more
pub row_entries-row : (kept : List (List ℕ)) (entry : List ℕ) → 0 < length kept → note_in entry ≡ None → row_entries (kept ++ entry ∷ []) ≡ row_entries kept ++ entry ∷ []
row_entries-row kept entry begun none = row_entries-more kept entry begun ∙ ap (λ (f : Option Note). row_entries kept ++ row_only f entry) none

-- another entry is none
pub row_entries-note : (kept : List (List ℕ)) (entry : List ℕ) → 0 < length kept → IsSome (note_in entry) → row_entries (kept ++ entry ∷ []) ≡ row_entries kept
row_entries-note kept entry begun some = row_entries-more kept entry begun ∙ by (note_in entry) some
  where
    by : (n : Option Note) → IsSome n → row_entries kept ++ row_only n entry ≡ row_entries kept
    by None some = cc some
    by (Some note) some = append-nil (row_entries kept)

pub next_number-row : (kept : List (List ℕ)) (entry : List ℕ) → 0 < length kept → note_in entry ≡ None → next_number (kept ++ entry ∷ []) ≡ next_number kept + 1
next_number-row kept entry begun none =
    ap (λ (rows : List (List ℕ)). length rows + 1) (row_entries-row kept entry begun none)
    ∙ ap (λ (n : ℕ). n + 1) (length-append (row_entries kept) (entry ∷ []))

pub next_number-note : (kept : List (List ℕ)) (entry : List ℕ) → 0 < length kept → IsSome (note_in entry) → next_number (kept ++ entry ∷ []) ≡ next_number kept
next_number-note kept entry begun some = ap (λ (rows : List (List ℕ)). length rows + 1) (row_entries-note kept entry begun some)

file_after-append : (before : List ℕ) (some more : List (List ℕ)) → file_after before (some ++ more) ≡ file_after (file_after before some) more
unfolding file_after
file_after-append before [] more = refl
file_after-append before (entry ∷ some) more = file_after-append (file_with before (note_in entry)) some more

one_after : (before entry : List ℕ) → file_after before (entry ∷ []) ≡ file_with before (note_in entry)
unfolding file_after
one_after before entry = refl

pub standing_file-more : (kept : List (List ℕ)) (entry : List ℕ) → 0 < length kept → standing_file (kept ++ entry ∷ []) ≡ file_with (standing_file kept) (note_in entry)
standing_file-more [] entry begun = absurd (omega (arith, begun))
standing_file-more (first ∷ later) entry begun = file_after-append first later (entry ∷ []) ∙ one_after (file_after first later) entry

-- what is no court's file changes no court
pub standing_file-other : (kept : List (List ℕ)) (entry : List ℕ) → 0 < length kept → later_file entry ≡ None → standing_file (kept ++ entry ∷ []) ≡ standing_file kept
standing_file-other kept entry begun none = standing_file-more kept entry begun ∙ ap (λ (f : Option (List ℕ)). file_with (standing_file kept) (note_of f (strike_in entry) (restore_in entry))) none ∙ by (strike_in entry) (restore_in entry)
  where
    by : (s : Option Strike) (r : Option Restore) → file_with (standing_file kept) (note_of None s r) ≡ standing_file kept
    by None None = refl
    by None (Some r) = refl
    by (Some s) r = refl

-- a later court's file stands after it
pub standing_file-file : (kept : List (List ℕ)) (entry later : List ℕ) → 0 < length kept → note_in entry ≡ Some (court_file later) → standing_file (kept ++ entry ∷ []) ≡ later
standing_file-file kept entry later begun some = standing_file-more kept entry begun ∙ ap (file_with (standing_file kept)) some

-- what an entry is by what it begins with
pub file_noted : (entry later : List ℕ) → later_file entry ≡ Some later → note_in entry ≡ Some (court_file later)
file_noted entry later some = ap (λ (f : Option (List ℕ)). note_of f (strike_in entry) (restore_in entry)) some

pub strike_noted : (entry : List ℕ) (struck : Strike) → later_file entry ≡ None → strike_in entry ≡ Some struck → note_in entry ≡ Some (row_struck struck)
strike_noted entry struck none some =
    ap (λ (f : Option (List ℕ)). note_of f (strike_in entry) (restore_in entry)) none ∙ ap (λ (s : Option Strike). note_of None s (restore_in entry)) some

pub no_strike_noted : (entry : List ℕ) → later_file entry ≡ None → strike_in entry ≡ None → note_in entry ≡ note_of None None (restore_in entry)
no_strike_noted entry none no_strike =
    ap (λ (f : Option (List ℕ)). note_of f (strike_in entry) (restore_in entry)) none ∙ ap (λ (s : Option Strike). note_of None s (restore_in entry)) no_strike

pub restore_noted : (entry : List ℕ) (restored : Restore) → later_file entry ≡ None → strike_in entry ≡ None → restore_in entry ≡ Some restored → note_in entry ≡ Some (row_restored restored)
restore_noted entry restored none no_strike some = no_strike_noted entry none no_strike ∙ ap (note_of None None) some

pub none_noted : (entry : List ℕ) → later_file entry ≡ None → strike_in entry ≡ None → restore_in entry ≡ None → note_in entry ≡ None
none_noted entry none no_strike no_restore = no_strike_noted entry none no_strike ∙ ap (note_of None None) no_restore

struck_after-append : (struck : List ℕ) (some more : List (List ℕ)) → struck_after struck (some ++ more) ≡ struck_after (struck_after struck some) more
unfolding struck_after
struck_after-append struck [] more = refl
struck_after-append struck (entry ∷ some) more = struck_after-append (struck_by struck (note_in entry)) some more

one_struck : (struck : List ℕ) (entry : List ℕ) → struck_after struck (entry ∷ []) ≡ struck_by struck (note_in entry)
unfolding struck_after
one_struck struck entry = refl

-- the rows that are struck after one entry more
pub struck_in-more : (kept : List (List ℕ)) (entry : List ℕ) → 0 < length kept → struck_in (kept ++ entry ∷ []) ≡ struck_by (struck_in kept) (note_in entry)
struck_in-more kept entry begun =
    ap (struck_after []) (drop_first kept entry begun)
    ∙ struck_after-append [] (drop 1 kept) (entry ∷ [])
    ∙ one_struck (struck_in kept) entry

-- none are by a court's file alone
pub none_struck : (first : List ℕ) → struck_in (first ∷ []) ≡ []
unfolding struck_after
none_struck first = refl

-- a row that comes after each that is struck isn't struck
none_among : (number : ℕ) (rows : List ℕ) → list_all (λ row. nat_lt row number) rows ≡ true → list_any (nat_eq number) rows ≡ false
none_among number [] h = refl
none_among number (row ∷ rows) h = by (nat_lt row number) refl h (none_among number rows)
  where
    by : (b : Bool) → nat_lt row number ≡ b → (b && list_all (λ r. nat_lt r number) rows) ≡ true → (list_all (λ r. nat_lt r number) rows ≡ true → list_any (nat_eq number) rows ≡ false) → (nat_eq number row || list_any (nat_eq number) rows) ≡ false
    by true e h rest = let other : nat_eq number row ≡ false = grind (arith, nat_tests) in rw other (rest h)
    by false e h rest = cc h

pub not_struck : (c : CorrectionsView) (number : ℕ) → all_before c number ≡ true → is_struck c number ≡ false
not_struck c number h = none_among number c.struck h

-- what comes before a number comes before the next
before_more : (number : ℕ) (rows : List ℕ) → list_all (λ row. nat_lt row number) rows ≡ true → list_all (λ row. nat_lt row (number + 1)) rows ≡ true
before_more number [] h = refl
before_more number (row ∷ rows) h = by (nat_lt row number) refl h (before_more number rows)
  where
    by : (b : Bool) → nat_lt row number ≡ b → (b && list_all (λ r. nat_lt r number) rows) ≡ true → (list_all (λ r. nat_lt r number) rows ≡ true → list_all (λ r. nat_lt r (number + 1)) rows ≡ true) → (nat_lt row (number + 1) && list_all (λ r. nat_lt r (number + 1)) rows) ≡ true
    by true e h rest = let less : nat_lt row (number + 1) ≡ true = grind (arith, nat_tests) in rw less (rest h)
    by false e h rest = cc h

-- after a row's entry each row that is struck still comes before
pub before-row : (c : CorrectionsView) (kept : List (List ℕ)) (entry : List ℕ) → 0 < length kept → note_in entry ≡ None → all_before c (next_number kept) ≡ true → all_before c (next_number (kept ++ entry ∷ [])) ≡ true
before-row c kept entry begun none h = ap (all_before c) (next_number-row kept entry begun none) ∙ before_more (next_number kept) c.struck h

pub before-note : (c : CorrectionsView) (kept : List (List ℕ)) (entry : List ℕ) → 0 < length kept → IsSome (note_in entry) → all_before c (next_number kept) ≡ true → all_before c (next_number (kept ++ entry ∷ [])) ≡ true
before-note c kept entry begun some h = ap (all_before c) (next_number-note kept entry begun some) ∙ h

all_pushed : (number : ℕ) (rows : List ℕ) (row : ℕ) → list_all (λ r. nat_lt r number) rows ≡ true → nat_lt row number ≡ true → list_all (λ r. nat_lt r number) (rows ++ row ∷ []) ≡ true
all_pushed number [] row h k = rw k refl
all_pushed number (r ∷ rows) row h k = by (nat_lt r number) h (λ rest. all_pushed number rows row rest k)
  where
    by : (b : Bool) → (b && list_all (λ r. nat_lt r number) rows) ≡ true → (list_all (λ r. nat_lt r number) rows ≡ true → list_all (λ r. nat_lt r number) (rows ++ row ∷ []) ≡ true) → (b && list_all (λ r. nat_lt r number) (rows ++ row ∷ [])) ≡ true
    by true h rest = rest h
    by false h rest = cc h

-- and after a strike of a row before
pub before_strike : (struck : List ℕ) (row number : ℕ) → list_all (λ r. nat_lt r number) struck ≡ true → nat_lt row number ≡ true → list_all (λ r. nat_lt r number) (struck_with struck row) ≡ true
unfolding struck_with
before_strike struck row number h k = by (is_among struck row)
  where
    by : (b : Bool) → list_all (λ r. nat_lt r number) (cond b struck (struck ++ row ∷ [])) ≡ true
    by true = h
    by false = all_pushed number struck row h k

-- entries up to one more of a journal's
pub take_batch : (entries : List (Vec ℕ Global)) (i : ℕ) (entry : Vec ℕ Global) → i < length entries → entry ≡ get_or entries i entry → batch_of (take (i + 1) entries) ≡ batch_of (take i entries) ++ entry.items ∷ []
take_batch entries i entry lt at =
    ap batch_of (take_more entries i entry lt)
    ∙ map-append (λ (v : Vec ℕ Global). v.items) (take i entries) (get_or entries i entry ∷ [])
    ∙ ap (λ (e : Vec ℕ Global). batch_of (take i entries) ++ e.items ∷ []) (sym at)

-- how many they are
pub length_batch : (entries : List (Vec ℕ Global)) → length (batch_of entries) ≡ length entries
length_batch [] = refl
length_batch (entry ∷ entries) = ap suc (length_batch entries)

-- the first of them alone
pub first_batch : (entries : List (Vec ℕ Global)) (first : Vec ℕ Global) → slice_get entries 0 ≡ Some first → batch_of (take 1 entries) ≡ first.items ∷ []
first_batch [] first h = cc h
first_batch (entry ∷ entries) first h = let same : entry ≡ first = cc h in ap (λ (e : Vec ℕ Global). e.items ∷ []) same

pub standing_first : (first : List ℕ) → standing_file (first ∷ []) ≡ first
unfolding file_after
standing_first first = refl

-- a journal's entries begin with one
pub some_first : (entries : List (Vec ℕ Global)) → 0 < length entries → (first : List ℕ) × (batch_of (take 1 entries) ≡ first ∷ [])
some_first [] begun = absurd (omega (arith, begun))
some_first (entry ∷ entries) begun = (entry.items, refl)

-- there are some up to a later place
pub begun_batch : (entries : List (Vec ℕ Global)) (place : ℕ) → 1 ≤ place → place < length entries → 0 < length (batch_of (take place entries))
begun_batch [] place begun within = absurd (omega (arith, within))
begun_batch (entry ∷ entries) zero begun within = absurd (omega (arith, begun))
begun_batch (entry ∷ entries) (suc place) begun within = omega arith

-- whether there is something, and what it is taken for
pub some_map : {A B : Type 0} (f : A → B) (x : Option A) → is_some (option_map f x) ≡ is_some x
some_map f None = refl
some_map f (Some x) = refl

pub none_of : {A B : Type 0} (f : A → B) (x : Option A) → is_some x ≡ false → option_map f x ≡ None
none_of f None e = refl
none_of f (Some x) e = cc e

-- what is so by whether there is something
pub same_of : {A : Type 0} (P : Type 0) (Q : A → Type 0) (x : Option A) → MatchOption x P Q → is_some x ≡ false → P
same_of P Q None p e = p
same_of P Q (Some x) q e = cc e

pub other_of : {A : Type 0} (P : Type 0) (Q : A → Type 0) (x : Option A) → MatchOption x P Q → is_some x ≡ true → (a : A) × Q a
other_of P Q None p e = cc e
other_of P Q (Some x) q e = (x, q)

-- entries, up to a place and after it
pub parted : (entries : List (Vec ℕ Global)) (n : ℕ) → batch_of (take n entries) ++ batch_of (drop n entries) ≡ batch_of entries
parted entries n = sym (map-append (λ (v : Vec ℕ Global). v.items) (take n entries) (drop n entries)) ∙ ap batch_of (take-append-drop n entries)

-- where an entry comes at a place, entries are those before it, it, and those after it
pub parts_at : (entries : List (Vec ℕ Global)) (place : ℕ) (entry : List ℕ) → batch_of (take (place + 1) entries) ≡ batch_of (take place entries) ++ entry ∷ []
    → batch_of entries ≡ batch_of (take place entries) ++ entry ∷ batch_of (drop (place + 1) entries)
parts_at entries place entry is =
    sym (parted entries (place + 1)) ∙ ap (λ (l : List (List ℕ)). l ++ batch_of (drop (place + 1) entries)) is
    ∙ append_assoc (batch_of (take place entries)) (entry ∷ []) (batch_of (drop (place + 1) entries))

pub none_unless : {A : Type 0} (P : Type 0) (Q : A → Type 0) (x : Option A) → MatchOption x P Q → ((a : A) → x ≡ Some a → ⊥) → P
none_unless P Q None p never = p
none_unless P Q (Some x) q never = absurd (never x refl)

-- a first entry is no row
pub no_rows_first : (entries : List (Vec ℕ Global)) → row_entries (batch_of (take 1 entries)) ≡ []
unfolding rows_among
no_rows_first [] = refl
no_rows_first (entry ∷ entries) = refl

one_few : (n : Option Note) (entry : List ℕ) (later : List (List ℕ)) → length (rows_among later) ≤ length later → length (row_only n entry ++ rows_among later) ≤ length (entry ∷ later)
one_few None entry later few = omega (arith, few)
one_few (Some note) entry later few = omega (arith, few)

-- there are no more rows than entries
rows_few : (later : List (List ℕ)) → length (rows_among later) ≤ length later
unfolding rows_among
rows_few [] = omega arith
rows_few (entry ∷ later) = one_few (note_in entry) entry later (rows_few later)

pub next_number-few : (kept : List (List ℕ)) → 0 < length kept → next_number kept ≤ length kept
next_number-few [] begun = absurd (omega (arith, begun))
next_number-few (first ∷ later) begun = omega (arith, rows_few later)
