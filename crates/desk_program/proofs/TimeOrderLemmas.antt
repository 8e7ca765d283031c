-- The first entry that is of an earlier time than the one before it, among those that are left.
use Rattle.std.proofs.Common.{◌≡◌, ◌∙◌, ◌+◌, ◌<◌, ◌≤◌, ℕ, Bool, true, false, List, ◌∷◌, drop, get_or, length, sym, ap}
use Rattle.std.specs.Prelude.{Option, None, Some, Vec, nat_lt}
use Rattle.std.specs.declared.alloc.Global.{Global}
use Rattle.std.proofs.lemmas.List.{drop-drop, drop-map, drop_all, drop_more}
use Rattle.desk_journal.specs.Words.{StampView, batch_of}
use Rattle.desk_entries.specs.Words.{note_in, row_only}
use Rattle.desk_program.specs.declared.entry_kind.EntryKind.{EntryKind}
use Rattle.desk_program.specs.declared.time_order.EarlierEntry.{EarlierEntry}
use Rattle.desk_program.specs.EntryKind.{kind_of}
use Rattle.desk_program.specs.Log.{first_stamp}
use Rattle.desk_program.specs.TimeOrder.{called_so, earlier_in, earlier_or, first_earlier}

-- before the first of the later entries
pub earlier_first : (before : ℕ) (entries : List (Vec ℕ Global)) (stamps : List StampView) → before ≡ (first_stamp stamps).time
    → first_earlier before 1 (batch_of (drop 1 entries)) (drop 1 stamps) ≡ earlier_in (batch_of entries) stamps
earlier_first before entries stamps is =
    ap (λ (b : ℕ). first_earlier b 1 (batch_of (drop 1 entries)) (drop 1 stamps)) is
    ∙ ap (λ (l : List (List ℕ)). first_earlier (first_stamp stamps).time 1 l (drop 1 stamps)) (sym (drop-map (λ (v : Vec ℕ Global). v.items) 1 entries))

-- the first of the entries that are left
earlier_next : (before number : ℕ) (entries : List (Vec ℕ Global)) (stamps : List StampView) (place : ℕ) (entry : Vec ℕ Global) → place < length entries → entry ≡ get_or entries place entry
    → first_earlier before number (batch_of (drop place entries)) (drop place stamps)
    ≡ earlier_or (nat_lt (first_stamp (drop place stamps)).time before) (called_so (kind_of (note_in entry.items)) number) (first_earlier (first_stamp (drop place stamps)).time (number + length (row_only (note_in entry.items) entry.items)) (batch_of (drop (place + 1) entries)) (drop (place + 1) stamps))
unfolding first_earlier
earlier_next before number entries stamps place entry lt is =
    ap (λ (l : List (Vec ℕ Global)). first_earlier before number (batch_of l) (drop place stamps)) (drop_more entries place entry lt)
    ∙ ap (λ (e : Vec ℕ Global). first_earlier before number (batch_of (e ∷ drop (place + 1) entries)) (drop place stamps)) (sym is)
    ∙ ap (λ (l : List StampView). earlier_or (nat_lt (first_stamp (drop place stamps)).time before) (called_so (kind_of (note_in entry.items)) number) (first_earlier (first_stamp (drop place stamps)).time (number + length (row_only (note_in entry.items) entry.items)) (batch_of (drop (place + 1) entries)) l))
    (drop-drop 1 place stamps)

-- it is of an earlier time, or it isn't
earlier_by : (is : Bool) (time before number : ℕ) (entries : List (Vec ℕ Global)) (stamps : List StampView) (place : ℕ) (entry : Vec ℕ Global) → place < length entries → entry ≡ get_or entries place entry → time ≡ (first_stamp (drop place stamps)).time
    → nat_lt time before ≡ is
    → first_earlier before number (batch_of (drop place entries)) (drop place stamps)
    ≡ earlier_or is (called_so (kind_of (note_in entry.items)) number) (first_earlier (first_stamp (drop place stamps)).time (number + length (row_only (note_in entry.items) entry.items)) (batch_of (drop (place + 1) entries)) (drop (place + 1) stamps))
earlier_by is time before number entries stamps place entry lt at here less =
    earlier_next before number entries stamps place entry lt at
    ∙ ap (λ (b : Bool). earlier_or b (called_so (kind_of (note_in entry.items)) number) (first_earlier (first_stamp (drop place stamps)).time (number + length (row_only (note_in entry.items) entry.items)) (batch_of (drop (place + 1) entries)) (drop (place + 1) stamps)))
    (ap (λ (t : ℕ). nat_lt t before) (sym here) ∙ less)

-- an entry that is found
pub earlier_found : (time before number : ℕ) (kind : EntryKind) (entries : List (Vec ℕ Global)) (stamps : List StampView) (place : ℕ) (entry : Vec ℕ Global) (whole : Option EarlierEntry)
    → place < length entries → entry ≡ get_or entries place entry → time ≡ (first_stamp (drop place stamps)).time → kind ≡ kind_of (note_in entry.items) → nat_lt time before ≡ true
    → first_earlier before number (batch_of (drop place entries)) (drop place stamps) ≡ whole
    → Some (called_so kind number) ≡ whole
earlier_found time before number kind entries stamps place entry whole lt at here called less so_far =
    ap (λ (k : EntryKind). Some (called_so k number)) called
    ∙ sym (earlier_by true time before number entries stamps place entry lt at here less)
    ∙ so_far

-- after one entry more
pub earlier_more : (time before number next : ℕ) (entries : List (Vec ℕ Global)) (stamps : List StampView) (place : ℕ) (entry : Vec ℕ Global) (whole : Option EarlierEntry)
    → place < length entries → entry ≡ get_or entries place entry → time ≡ (first_stamp (drop place stamps)).time → next ≡ number + length (row_only (note_in entry.items) entry.items) → nat_lt time before ≡ false
    → first_earlier before number (batch_of (drop place entries)) (drop place stamps) ≡ whole
    → first_earlier time next (batch_of (drop (place + 1) entries)) (drop (place + 1) stamps) ≡ whole
earlier_more time before number next entries stamps place entry whole lt at here counted less so_far =
    ap (λ (t : ℕ). first_earlier t next (batch_of (drop (place + 1) entries)) (drop (place + 1) stamps)) here
    ∙ ap (λ (n : ℕ). first_earlier (first_stamp (drop place stamps)).time n (batch_of (drop (place + 1) entries)) (drop (place + 1) stamps)) counted
    ∙ sym (earlier_by false time before number entries stamps place entry lt at here less)
    ∙ so_far

-- after the last
pub earlier_none : (before number : ℕ) (entries : List (Vec ℕ Global)) (stamps : List StampView) (place : ℕ) (whole : Option EarlierEntry) → length entries ≤ place
    → first_earlier before number (batch_of (drop place entries)) (drop place stamps) ≡ whole → None ≡ whole
unfolding first_earlier
earlier_none before number entries stamps place whole le so_far =
    ap (λ (l : List (Vec ℕ Global)). first_earlier before number (batch_of l) (drop place stamps)) (sym (drop_all place entries le))
    ∙ so_far
