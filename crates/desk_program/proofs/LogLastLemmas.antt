-- The last entries of a log, one after another.
use Rattle.std.proofs.Common.{◌≡◌, ◌∙◌, ◌+◌, ◌-◌, ◌<◌, ◌≤◌, ℕ, List, [], ◌∷◌, ◌++◌, drop, get_or, length, map, sym, ap, refl, append_assoc, append-nil}
use Rattle.std.specs.Prelude.{Option, Vec}
use Rattle.std.specs.declared.alloc.Global.{Global}
use Rattle.std.specs.List.{flat_map}
use Rattle.std.proofs.lemmas.List.{drop-drop, drop-map, drop_all, drop_more, length-map, map-append}
use Rattle.desk_journal.specs.Words.{StampView, batch_of}
use Rattle.desk_entries.specs.Words.{note_in, row_only}
use Rattle.desk_program.specs.declared.log.LogChoice.{LogChoice}
use Rattle.desk_program.specs.EntryKind.{kind_of}
use Rattle.desk_program.specs.Log.{entry_log, first_stamp}
use Rattle.desk_program.specs.LogLast.{bytes_in, if_said, kept_if_said, last_joined, later_said}

-- nothing more
pub none_more : {X : Type 0} (xs : List X) → xs ++ [] ≡ xs
none_more xs = append-nil xs

-- a text that is kept if it says something is one that does
kept_is : (bytes : List ℕ) (text : Vec ℕ Global) → text.items ≡ bytes → batch_of (kept_if_said bytes text) ≡ if_said bytes
kept_is [] text is = refl
kept_is (byte ∷ bytes) text is = ap (λ (t : List ℕ). t ∷ []) is

-- the first of the entries that are left
said_next : (choice : LogChoice) (named : List (Option ℕ)) (number : ℕ) (entries : List (Vec ℕ Global)) (stamps : List StampView) (place : ℕ) (entry : Vec ℕ Global) → place < length entries → entry ≡ get_or entries place entry
    → later_said choice named number (batch_of (drop place entries)) (drop place stamps)
    ≡ if_said (entry_log choice named (kind_of (note_in entry.items)) number entry.items (first_stamp (drop place stamps))) ++ later_said choice named (number + length (row_only (note_in entry.items) entry.items)) (batch_of (drop (place + 1) entries)) (drop (place + 1) stamps)
unfolding later_said
said_next choice named number entries stamps place entry lt is =
    ap (λ (l : List (Vec ℕ Global)). later_said choice named number (batch_of l) (drop place stamps)) (drop_more entries place entry lt)
    ∙ ap (λ (e : Vec ℕ Global). later_said choice named number (batch_of (e ∷ drop (place + 1) entries)) (drop place stamps)) (sym is)
    ∙ ap (λ (l : List StampView). if_said (entry_log choice named (kind_of (note_in entry.items)) number entry.items (first_stamp (drop place stamps))) ++ later_said choice named (number + length (row_only (note_in entry.items) entry.items)) (batch_of (drop (place + 1) entries)) l)
    (drop-drop 1 place stamps)

-- after one entry more
pub said_more : (choice : LogChoice) (named : List (Option ℕ)) (number next : ℕ) (entries : List (Vec ℕ Global)) (stamps : List StampView) (place : ℕ) (entry text : Vec ℕ Global) (stamp : StampView) (old new : List (Vec ℕ Global)) (whole : List (List ℕ))
    → place < length entries → entry ≡ get_or entries place entry → stamp ≡ first_stamp (drop place stamps) → next ≡ number + length (row_only (note_in entry.items) entry.items)
    → text.items ≡ entry_log choice named (kind_of (note_in entry.items)) number entry.items stamp → new ≡ old ++ kept_if_said text.items text
    → batch_of old ++ later_said choice named number (batch_of (drop place entries)) (drop place stamps) ≡ whole
    → batch_of new ++ later_said choice named next (batch_of (drop (place + 1) entries)) (drop (place + 1) stamps) ≡ whole
said_more choice named number next entries stamps place entry text stamp old new whole lt is same counted says added so_far =
    let rest = λ (n : ℕ). later_said choice named n (batch_of (drop (place + 1) entries)) (drop (place + 1) stamps) in
    let after = number + length (row_only (note_in entry.items) entry.items) in
    let log = λ (s : StampView). entry_log choice named (kind_of (note_in entry.items)) number entry.items s in
    let one : batch_of (kept_if_said text.items text) ≡ if_said (log (first_stamp (drop place stamps))) = kept_is text.items text refl ∙ ap if_said (says ∙ ap log same) in
    ap (λ (n : ℕ). batch_of new ++ rest n) counted
    ∙ ap (λ (l : List (Vec ℕ Global)). batch_of l ++ rest after) added
    ∙ ap (λ (l : List (List ℕ)). l ++ rest after) (map-append (λ (v : Vec ℕ Global). v.items) old (kept_if_said text.items text))
    ∙ ap (λ (l : List (List ℕ)). (batch_of old ++ l) ++ rest after) one
    ∙ append_assoc (batch_of old) (if_said (log (first_stamp (drop place stamps)))) (rest after)
    ∙ ap (λ (l : List (List ℕ)). batch_of old ++ l) (sym (said_next choice named number entries stamps place entry lt is))
    ∙ so_far

-- before the first of the later entries
pub said_first : (choice : LogChoice) (named : List (Option ℕ)) (entries : List (Vec ℕ Global)) (stamps : List StampView) (texts : List (Vec ℕ Global)) → texts ≡ []
    → batch_of texts ++ later_said choice named 1 (batch_of (drop 1 entries)) (drop 1 stamps) ≡ later_said choice named 1 (drop 1 (batch_of entries)) (drop 1 stamps)
said_first choice named entries stamps texts none =
    ap (λ (l : List (Vec ℕ Global)). batch_of l ++ later_said choice named 1 (batch_of (drop 1 entries)) (drop 1 stamps)) none
    ∙ ap (λ (l : List (List ℕ)). later_said choice named 1 l (drop 1 stamps)) (sym (drop-map (λ (v : Vec ℕ Global). v.items) 1 entries))

-- after the last
pub said_all : (choice : LogChoice) (named : List (Option ℕ)) (number : ℕ) (entries : List (Vec ℕ Global)) (stamps : List StampView) (place : ℕ) (texts : List (Vec ℕ Global)) (whole : List (List ℕ)) → length entries ≤ place
    → batch_of texts ++ later_said choice named number (batch_of (drop place entries)) (drop place stamps) ≡ whole → batch_of texts ≡ whole
unfolding later_said
said_all choice named number entries stamps place texts whole le so_far =
    sym (append-nil (batch_of texts))
    ∙ ap (λ (l : List (Vec ℕ Global)). batch_of texts ++ later_said choice named number (batch_of l) (drop place stamps)) (sym (drop_all place entries le))
    ∙ so_far

-- texts, one after another
joined_bytes : (texts : List (Vec ℕ Global)) → flat_map bytes_in texts ≡ flat_map (λ (text : List ℕ). text) (batch_of texts)
joined_bytes [] = refl
joined_bytes (text ∷ texts) = ap (λ (l : List ℕ). text.items ++ l) (joined_bytes texts)

-- the last of them
pub last_bytes : (most : ℕ) (texts : List (Vec ℕ Global)) → flat_map bytes_in (drop (length texts - most) texts) ≡ last_joined most (batch_of texts)
last_bytes most texts =
    joined_bytes (drop (length texts - most) texts)
    ∙ ap (λ (l : List (List ℕ)). flat_map (λ (text : List ℕ). text) l) (sym (drop-map (λ (v : Vec ℕ Global). v.items) (length texts - most) texts))
    ∙ ap (λ (n : ℕ). flat_map (λ (text : List ℕ). text) (drop (n - most) (batch_of texts))) (sym (length-map texts (λ (v : Vec ℕ Global). v.items)))
