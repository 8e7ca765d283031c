-- The last entries of a journal's log that are asked for.
use Rattle.std.specs.Prelude.{ℕ, ◌+◌, ◌-◌, List, [], ◌∷◌, ◌++◌, Option, Vec, drop, length}
use Rattle.std.specs.declared.alloc.Global.{Global}
use Rattle.std.specs.List.{flat_map}
use Rattle.row_forms.specs.Words.{CourtNames}
use Rattle.desk_journal.specs.Words.{StampView}
use Rattle.desk_entries.specs.Words.{note_in, row_only}
use Rattle.desk_program.specs.declared.log.LogChoice.{LogChoice}
use Rattle.desk_program.specs.EntryKind.{kind_of}
use Rattle.desk_program.specs.Log.{cases_looked_up, entry_log, first_stamp}

-- a text, if it says something; and what has such a text
abbrev pub if_said : List ℕ → List (List ℕ)
if_said [] = []
if_said (byte ∷ text) = (byte ∷ text) ∷ []

abbrev pub kept_if_said : List ℕ → Vec ℕ Global → List (Vec ℕ Global)
kept_if_said [] text = []
kept_if_said (byte ∷ bytes) text = text ∷ []

abbrev pub bytes_in : Vec ℕ Global → List ℕ
bytes_in text = text.items

-- what is written of each of the later entries that is asked for, where the next row has this number
unfoldable pub later_said : LogChoice → (named : List (Option ℕ)) → (number : ℕ) → (later : List (List ℕ)) → (stamps : List StampView) → List (List ℕ)
later_said choice named number [] stamps = []
later_said choice named number (entry ∷ later) stamps =
    if_said (entry_log choice named (kind_of (note_in entry)) number entry (first_stamp stamps)) ++ later_said choice named (number + length (row_only (note_in entry) entry)) later (drop 1 stamps)

-- the last of some texts, at most that many, one after another
abbrev pub last_joined : (most : ℕ) → List (List ℕ) → List ℕ
last_joined most texts = flat_map (λ (text : List ℕ). text) (drop (length texts - most) texts)

-- what is written of the last entries that are asked for, at most that many, without the first, which is the court's file
abbrev pub last_log_text : CourtNames → LogChoice → (most : ℕ) → (entries : List (List ℕ)) → (stamps : List StampView) → List ℕ
last_log_text names choice most entries stamps =
    last_joined most (later_said choice (cases_looked_up names choice entries) 1 (drop 1 entries) (drop 1 stamps))
