-- The log of a journal: its entries that are asked for, as text or as JSON.
use Rattle.std.specs.Prelude.{ℕ, ◌+◌, ◌&&◌, ◌||◌, Bool, true, false, List, [], ◌∷◌, ◌++◌, Option, Some, None, String, drop, get_or, is_some, length, nat_eq, nat_le, nat_lt, string_bytes, if◌then◌else◌}
use Rattle.std.specs.declared.alloc.Global.{Global}
use Rattle.std.specs.List.{starts_with}
use Rattle.row_forms.specs.Words.{CourtNames}
use Rattle.desk_journal.specs.Words.{StampView}
use Rattle.desk_entries.specs.Words.{note_in, row_only}
use Rattle.desk_program.specs.declared.entry_kind.EntryKind.{EntryKind}
use Rattle.desk_program.specs.declared.entry_kind.EntryKind.TheVariants.{CourtFile, Restore, Row, Strike}
use Rattle.desk_program.specs.declared.log.LogChoice.{LogChoice}
use Rattle.desk_program.specs.EntryKind.{kind_of}
use Rattle.desk_program.specs.LogJson.{entry_json}
use Rattle.desk_program.specs.LogText.{entry_text}
use Rattle.desk_program.specs.RowCase.{cases_named}

-- the entry is the row of that number, or strikes or restores it
abbrev pub is_of_row : (row : ℕ) → EntryKind → (number : ℕ) → Bool
is_of_row row Row number = nat_eq number row
is_of_row row CourtFile number = false
is_of_row row (Strike of) number = nat_eq of row
is_of_row row (Restore of) number = nat_eq of row

abbrev pub is_row_asked : Option ℕ → EntryKind → (number : ℕ) → Bool
is_row_asked None kind number = true
is_row_asked (Some row) kind number = is_of_row row kind number

-- the case of the row that an entry is, strikes or restores, by the cases that rows name
abbrev pub entry_case : (named : List (Option ℕ)) → EntryKind → (number : ℕ) → Option ℕ
entry_case named Row number = get_or named number None
entry_case named CourtFile number = None
entry_case named (Strike row) number = get_or named row None
entry_case named (Restore row) number = get_or named row None

abbrev pub is_case_asked : Option ℕ → (case : Option ℕ) → Bool
is_case_asked None case = true
is_case_asked (Some asked) None = false
is_case_asked (Some asked) (Some case) = nat_eq case asked

-- after a name comes nothing, or `@`, which is 64
abbrev pub ends_name : List ℕ → Bool
ends_name [] = true
ends_name (byte ∷ rest) = nat_eq byte 64

-- the account is this, or begins with it and an `@`
abbrev pub is_account_asked : Option (String Global) → (account : List ℕ) → Bool
is_account_asked None account = true
is_account_asked (Some name) account = starts_with nat_eq account (string_bytes name) && ends_name (drop (length (string_bytes name)) account)

-- the time is that second or a later one
abbrev pub is_from : Option ℕ → (time : ℕ) → Bool
is_from None time = true
is_from (Some from) time = nat_le from time

-- the time is before that second
abbrev pub is_up_to : Option ℕ → (time : ℕ) → Bool
is_up_to None time = true
is_up_to (Some to) time = nat_lt time to

-- the stamp is of an account and a time that are asked for
abbrev pub is_stamp_asked : LogChoice → StampView → Bool
is_stamp_asked choice stamp = is_account_asked choice.by stamp.account && is_from choice.from stamp.time && is_up_to choice.to stamp.time

-- all of it holds that is asked for
abbrev pub is_entry_asked : LogChoice → EntryKind → (number : ℕ) → (case : Option ℕ) → StampView → Bool
is_entry_asked choice kind number case stamp = is_row_asked choice.row kind number && is_case_asked choice.case case && is_stamp_asked choice stamp

-- what is said of an entry
abbrev pub said_of : (json : Bool) → EntryKind → (number : ℕ) → (case : Option ℕ) → (entry : List ℕ) → StampView → List ℕ
said_of json kind number case entry stamp = if json then entry_json kind number case entry stamp else entry_text kind number entry stamp

-- what is written of an entry: nothing unless it is asked for
abbrev pub entry_log : LogChoice → (named : List (Option ℕ)) → EntryKind → (number : ℕ) → (entry : List ℕ) → StampView → List ℕ
entry_log choice named kind number entry stamp =
    if is_entry_asked choice kind number (entry_case named kind number) stamp then said_of choice.json kind number (entry_case named kind number) entry stamp else []

-- the stamp of the first of some entries; one that has none counts as of the first second, and of nobody
abbrev pub first_stamp : List StampView → StampView
first_stamp [] = record { time = 0; account = [] }
first_stamp (stamp ∷ stamps) = stamp

-- what is written of the first entry, a court's file as it is
abbrev pub first_log : LogChoice → (named : List (Option ℕ)) → (entries : List (List ℕ)) → StampView → List ℕ
first_log choice named [] stamp = []
first_log choice named (file ∷ later) stamp = entry_log choice named CourtFile 0 file stamp

-- what is written of later entries, where the next row has this number
unfoldable pub later_log : LogChoice → (named : List (Option ℕ)) → (number : ℕ) → (later : List (List ℕ)) → (stamps : List StampView) → List ℕ
later_log choice named number [] stamps = []
later_log choice named number (entry ∷ later) stamps =
    entry_log choice named (kind_of (note_in entry)) number entry (first_stamp stamps) ++ later_log choice named (number + length (row_only (note_in entry) entry)) later (drop 1 stamps)

-- the cases that rows name, where they have to be known for what is asked
abbrev pub cases_looked_up : CourtNames → LogChoice → (entries : List (List ℕ)) → List (Option ℕ)
cases_looked_up names choice entries = if choice.json || is_some choice.case then cases_named names entries else []

abbrev pub log_by : LogChoice → (named : List (Option ℕ)) → (entries : List (List ℕ)) → (stamps : List StampView) → List ℕ
log_by choice named entries stamps = first_log choice named entries (first_stamp stamps) ++ later_log choice named 1 (drop 1 entries) (drop 1 stamps)

-- what is written of a journal's entries, each with the stamp at its place
abbrev pub log_text : CourtNames → LogChoice → (entries : List (List ℕ)) → (stamps : List StampView) → List ℕ
log_text names choice entries stamps = log_by choice (cases_looked_up names choice entries) entries stamps
