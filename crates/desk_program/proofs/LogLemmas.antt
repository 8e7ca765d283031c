-- The log of entries, one after another.
use Rattle.std.proofs.Common.{◌≡◌, ◌∙◌, ◌+◌, ◌<◌, ◌≤◌, ℕ, Bool, true, false, ◌||◌, List, [], ◌∷◌, ◌++◌, drop, get_or, length, length-append, ltb, sym, ap, append_assoc, append-nil, arith}
use Rattle.std.specs.Prelude.{Option, None, Some, Vec}
use Rattle.std.specs.declared.alloc.Global.{Global}
use Rattle.std.proofs.lemmas.Bool.{lt-ltb, ltb-false, ltb-true}
use Rattle.std.proofs.lemmas.List.{drop-drop, drop-map, drop_all, drop_more}
use Rattle.row_forms.specs.Words.{CourtNames}
use Rattle.desk_journal.specs.Words.{StampView, batch_of}
use Rattle.desk_entries.specs.Words.{Note, note_in, row_only}
use Rattle.desk_program.specs.declared.log.LogChoice.{LogChoice}
use Rattle.desk_program.specs.EntryKind.{kind_of}
use Rattle.desk_program.specs.Log.{cases_looked_up, entry_log, first_log, first_stamp, later_log, log_by, log_text}

-- a stamp of this time and this account
pub stamp_of : (stamp : StampView) (time : ℕ) (account : List ℕ) → time ≡ stamp.time → account ≡ stamp.account → ◌≡◌ {A = StampView} (record { time = time; account = account }) stamp
stamp_of stamp time account at by = ap (λ (t : ℕ). record { time = t; account = account }) at ∙ ap (λ (a : List ℕ). record { time = stamp.time; account = a }) by

-- a row counts once, and another entry doesn't
pub counted_once : (entry : List ℕ) → length (row_only (note_in entry) entry) ≤ 1
counted_once entry = by (note_in entry)
  where
    by : (n : Option Note) → length (row_only n entry) ≤ 1
    by None = omega arith
    by (Some n) = omega arith

-- before the first of the later entries
pub log_first : (names : CourtNames) (choice : LogChoice) (named : List (Option ℕ)) (entries : List (Vec ℕ Global)) (stamps : List StampView) (stamp : StampView) (empty text : List ℕ)
    → named ≡ cases_looked_up names choice (batch_of entries) → empty ≡ [] → stamp ≡ first_stamp stamps
    → text ≡ empty ++ first_log choice named (batch_of entries) stamp
    → text ++ later_log choice named 1 (batch_of (drop 1 entries)) (drop 1 stamps) ≡ log_text names choice (batch_of entries) stamps
log_first names choice named entries stamps stamp empty text cases none same is =
    ap (λ (t : List ℕ). t ++ later_log choice named 1 (batch_of (drop 1 entries)) (drop 1 stamps))
    (is ∙ ap (λ (t : List ℕ). t ++ first_log choice named (batch_of entries) stamp) none ∙ ap (first_log choice named (batch_of entries)) same)
    ∙ ap (λ (l : List (List ℕ)). first_log choice named (batch_of entries) (first_stamp stamps) ++ later_log choice named 1 l (drop 1 stamps)) (sym (drop-map (λ (v : Vec ℕ Global). v.items) 1 entries))
    ∙ ap (λ (l : List (Option ℕ)). log_by choice l (batch_of entries) stamps) cases

-- the first of the entries that are left
log_next : (choice : LogChoice) (named : List (Option ℕ)) (number : ℕ) (entries : List (Vec ℕ Global)) (stamps : List StampView) (place : ℕ) (entry : Vec ℕ Global) → place < length entries → entry ≡ get_or entries place entry
    → later_log choice named number (batch_of (drop place entries)) (drop place stamps)
    ≡ entry_log choice named (kind_of (note_in entry.items)) number entry.items (first_stamp (drop place stamps)) ++ later_log choice named (number + length (row_only (note_in entry.items) entry.items)) (batch_of (drop (place + 1) entries)) (drop (place + 1) stamps)
unfolding later_log
log_next choice named number entries stamps place entry lt is =
    ap (λ (l : List (Vec ℕ Global)). later_log choice named number (batch_of l) (drop place stamps)) (drop_more entries place entry lt)
    ∙ ap (λ (e : Vec ℕ Global). later_log choice named number (batch_of (e ∷ drop (place + 1) entries)) (drop place stamps)) (sym is)
    ∙ ap (λ (l : List StampView). entry_log choice named (kind_of (note_in entry.items)) number entry.items (first_stamp (drop place stamps)) ++ later_log choice named (number + length (row_only (note_in entry.items) entry.items)) (batch_of (drop (place + 1) entries)) l)
    (drop-drop 1 place stamps)

parts : (written text said after front left rest : List ℕ) → after ≡ text ++ said → after ≡ front ++ left → (written ++ front) ++ (left ++ rest) ≡ written ++ (text ++ (said ++ rest))
parts written text said after front left rest is halves =
    append_assoc written front (left ++ rest)
    ∙ ap (λ (l : List ℕ). written ++ l) (sym (append_assoc front left rest) ∙ ap (λ (l : List ℕ). l ++ rest) (sym halves ∙ is) ∙ append_assoc text said rest)

-- after one entry more
pub log_more : (choice : LogChoice) (named : List (Option ℕ)) (number next : ℕ) (entries : List (Vec ℕ Global)) (stamps : List StampView) (place : ℕ) (entry : Vec ℕ Global) (stamp : StampView) (written text after front left whole : List ℕ)
    → place < length entries → entry ≡ get_or entries place entry → stamp ≡ first_stamp (drop place stamps) → next ≡ number + length (row_only (note_in entry.items) entry.items)
    → written ++ (text ++ later_log choice named number (batch_of (drop place entries)) (drop place stamps)) ≡ whole
    → after ≡ text ++ entry_log choice named (kind_of (note_in entry.items)) number entry.items stamp → after ≡ front ++ left
    → (written ++ front) ++ (left ++ later_log choice named next (batch_of (drop (place + 1) entries)) (drop (place + 1) stamps)) ≡ whole
log_more choice named number next entries stamps place entry stamp written text after front left whole lt is same counted so_far more halves =
    let rest = λ (n : ℕ). later_log choice named n (batch_of (drop (place + 1) entries)) (drop (place + 1) stamps) in
    ap (λ (n : ℕ). (written ++ front) ++ (left ++ rest n)) counted
    ∙ parts written text (entry_log choice named (kind_of (note_in entry.items)) number entry.items (first_stamp (drop place stamps))) after front left (rest (number + length (row_only (note_in entry.items) entry.items)))
    (more ∙ ap (λ (s : StampView). text ++ entry_log choice named (kind_of (note_in entry.items)) number entry.items s) same) halves
    ∙ ap (λ (l : List ℕ). written ++ (text ++ l)) (sym (log_next choice named number entries stamps place entry lt is))
    ∙ so_far

-- something was said so far, and then where a part of what was gathered is written, or all of it
pub some_first : (some : Bool) (n : ℕ) → some ≡ (false || ltb 0 n) → some ≡ ltb 0 (0 + n)
some_first some n is = is ∙ ap (ltb 0) (omega arith)

pub some_more : (some then : Bool) (written text after front left : List ℕ) (said : List ℕ) → some ≡ ltb 0 (length written + length text) → then ≡ (some || ltb 0 (length after))
    → after ≡ text ++ said → after ≡ front ++ left → then ≡ ltb 0 (length (written ++ front) + length left)
some_more some then written text after front left said is more parts halves =
    by some is more
  where
    long : length after ≡ length text + length said
    long = ap length parts ∙ length-append text said

    halved : length after ≡ length front + length left
    halved = ap length halves ∙ length-append front left

    by : (b : Bool) → b ≡ ltb 0 (length written + length text) → then ≡ (b || ltb 0 (length after)) → then ≡ ltb 0 (length (written ++ front) + length left)
    by true had told =
        let some : 0 < length written + length text = ltb-true 0 (length written + length text) (sym had) in
        told ∙ sym (lt-ltb 0 (length (written ++ front) + length left) (omega (arith, some, long, halved, length-append written front)))
    by false had told =
        let none : length written + length text ≤ 0 = ltb-false 0 (length written + length text) (sym had) in
        told ∙ ap (ltb 0) (omega (arith, none, long, halved, length-append written front))

pub some_all : (some : Bool) (written text whole : List ℕ) → some ≡ ltb 0 (length written + length text) → written ++ text ≡ whole → some ≡ ltb 0 (length whole)
some_all some written text whole is all = is ∙ ap (ltb 0) (sym (length-append written text) ∙ ap length all)

-- after the last
pub log_all : (choice : LogChoice) (named : List (Option ℕ)) (number : ℕ) (entries : List (Vec ℕ Global)) (stamps : List StampView) (place : ℕ) (written text whole : List ℕ) → length entries ≤ place
    → written ++ (text ++ later_log choice named number (batch_of (drop place entries)) (drop place stamps)) ≡ whole → written ++ text ≡ whole
unfolding later_log
log_all choice named number entries stamps place written text whole le so_far =
    ap (λ (l : List ℕ). written ++ l) (sym (append-nil text) ∙ ap (λ (l : List (Vec ℕ Global)). text ++ later_log choice named number (batch_of l) (drop place stamps)) (sym (drop_all place entries le)))
    ∙ so_far
