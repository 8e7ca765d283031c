-- Whether the times of a journal's entries go back, which those that the program writes never do.
use Rattle.std.specs.Prelude.{ℕ, ◌+◌, Bool, true, false, List, [], ◌∷◌, ◌++◌, Option, Some, None, codes, drop, length, nat_lt}
use Rattle.desk_journal.specs.Words.{StampView}
use Rattle.desk_entries.specs.Words.{note_in, row_only}
use Rattle.desk_program.specs.declared.entry_kind.EntryKind.{EntryKind}
use Rattle.desk_program.specs.declared.time_order.EarlierEntry.{EarlierEntry}
use Rattle.desk_program.specs.EntryKind.{kind_of}
use Rattle.desk_program.specs.Log.{first_stamp}
use Rattle.desk_program.specs.LogText.{kind_text}

-- an entry, as the log calls it
abbrev pub called_so : EntryKind → (number : ℕ) → EarlierEntry
called_so kind number = record { kind = kind; number = number }

-- an entry, where it is of an earlier time, or else the first of those after it that is
abbrev pub earlier_or : (is_earlier : Bool) → EarlierEntry → (later : Option EarlierEntry) → Option EarlierEntry
earlier_or true entry later = Some entry
earlier_or false entry later = later

-- the first of the later entries of which the time is before that of the entry before it, which is `before`, where the next row has this
-- number
unfoldable pub first_earlier : (before number : ℕ) → (later : List (List ℕ)) → (stamps : List StampView) → Option EarlierEntry
first_earlier before number [] stamps = None
first_earlier before number (entry ∷ later) stamps =
    earlier_or (nat_lt (first_stamp stamps).time before) (called_so (kind_of (note_in entry)) number)
    (first_earlier (first_stamp stamps).time (number + length (row_only (note_in entry) entry)) later (drop 1 stamps))

-- the first of a journal's entries of which the time is before that of the entry before it: none where times never go back
abbrev pub earlier_in : (entries : List (List ℕ)) → (stamps : List StampView) → Option EarlierEntry
earlier_in entries stamps = first_earlier (first_stamp stamps).time 1 (drop 1 entries) (drop 1 stamps)

-- what is said of it
abbrev pub earlier_line : EarlierEntry → List ℕ
earlier_line entry = kind_text entry.kind entry.number ++ codes " has an earlier time than the entry before it, so another program wrote it: keep the file, and take the last backup\n"
