-- An entry as a line of JSON: an object of what the log's text says of it.
use Rattle.std.specs.Prelude.{◌≡◌, ℕ, ◌-◌, ◌%◌, ◌<◌, ◌^◌, ℤ, List, [], ◌∷◌, ◌++◌, Option, Some, None, IfSome, codes, length, take, if◌then◌else◌, ⊤}
use Rattle.std.specs.Fmt.{decimal}
use Rattle.std.specs.Str.{is_utf8}
use Rattle.case_numbers.specs.Words.{after_name}
use Rattle.court_clock.specs.Words.{day_text}
use Rattle.reason_texts.specs.Words.{second_time}
use Rattle.json.specs.Json.{Json, Members, document, member, no_members, null, number, object, string}
use Rattle.json.specs.Print.{print}
use Rattle.json.specs.Token.{Token}
use Rattle.json.specs.Tree.{json_tokens, members_tokens}
use Rattle.json.specs.Written.{Written}
use Rattle.desk_journal.specs.Words.{StampView}
use Rattle.desk_numbers.specs.Strikes.Words.{remark_in}
use Rattle.desk_program.specs.declared.entry_kind.EntryKind.{EntryKind}
use Rattle.desk_program.specs.declared.entry_kind.EntryKind.TheVariants.{CourtFile, Restore, Row, Strike}
use Rattle.desk_program.specs.LogText.{dated_day, without_end}

-- a text, or `null` where the bytes are no text
abbrev pub bytes_json : List ℕ → Json
bytes_json bytes = if is_utf8 bytes then string bytes else null

abbrev pub amount_json : ℕ → Json
amount_json n = number (decimal n)

-- the number of a case, or `null` where there is none
abbrev pub case_json : Option ℕ → Json
case_json (Some case) = amount_json case
case_json None = null

-- `2026-11-28T00:50:07Z`, by RFC 3339, or `null` where the day has no date
abbrev pub time_json_on : Option ℤ → (time : ℕ) → Json
time_json_on (Some day) time = string (day_text day ++ codes "T" ++ second_time (time % 86_400) ++ codes "Z")
time_json_on None time = null

abbrev pub time_json : (time : ℕ) → Json
time_json time = time_json_on (dated_day time) time

-- the line of a row's entry, without its end, after that of a case's name; and the answer, without the end of its last line
abbrev pub row_line : (entry : List ℕ) → List ℕ
row_line entry = without_end (take (length (after_name entry) - length (remark_in (after_name entry))) (after_name entry))

abbrev pub row_answer : (entry : List ℕ) → List ℕ
row_answer entry = without_end (remark_in (after_name entry))

-- when an entry was kept and by which account, before other members
abbrev pub with_stamp : StampView → Members → Members
with_stamp stamp rest = member (codes "time") (time_json stamp.time) (member (codes "account") (bytes_json stamp.account) rest)

-- the members of a strike or a restore
abbrev pub correction_members : (word : List ℕ) → (row : ℕ) → (case : Option ℕ) → (entry : List ℕ) → StampView → Members
correction_members word row case entry stamp =
    member (codes "kind") (string word) (member (codes "row") (amount_json row) (with_stamp stamp (member (codes "case") (case_json case) (member (codes "remark") (bytes_json (without_end (remark_in entry))) no_members))))

-- the members of an entry's object; the many lines of a court's file aren't written
abbrev pub entry_members : EntryKind → (row : ℕ) → (case : Option ℕ) → (entry : List ℕ) → StampView → Members
entry_members Row row case entry stamp =
    member (codes "kind") (string (codes "row")) (member (codes "row") (amount_json row) (with_stamp stamp (member (codes "case") (case_json case) (member (codes "line") (bytes_json (row_line entry)) (member (codes "answer") (bytes_json (row_answer entry)) no_members)))))
entry_members CourtFile row case entry stamp = member (codes "kind") (string (codes "court")) (with_stamp stamp no_members)
entry_members (Strike of) row case entry stamp = correction_members (codes "strike") of case entry stamp
entry_members (Restore of) row case entry stamp = correction_members (codes "restore") of case entry stamp

-- the object of an entry
abbrev pub entry_object : EntryKind → (row : ℕ) → (case : Option ℕ) → (entry : List ℕ) → StampView → Json
entry_object kind row case entry stamp = object (entry_members kind row case entry stamp)

-- the object as a line, without spaces
abbrev pub entry_json : EntryKind → (row : ℕ) → (case : Option ℕ) → (entry : List ℕ) → StampView → List ℕ
entry_json kind row case entry stamp = print (json_tokens (entry_object kind row case entry stamp)) ++ 10 ∷ []

-- the row that a strike or a restore names has at most 64 bits
abbrev pub NamesFew : EntryKind → Type 0
NamesFew (Strike row) = row < 2 ^ 64
NamesFew (Restore row) = row < 2 ^ 64
NamesFew Row = ⊤
NamesFew CourtFile = ⊤

-- What is written of an entry's object reads back as that object, whatever bytes the entry has, where its numbers have at most 64 bits.
abbrev pub LogReadsBack : Type 0
LogReadsBack = (kind : EntryKind) (row : ℕ) (case : Option ℕ) (entry : List ℕ) (stamp : StampView) → NamesFew kind → row < 2 ^ 64 → IfSome case (λ number. number < 2 ^ 64)
    → document (print (json_tokens (entry_object kind row case entry stamp))) ≡ Some (entry_object kind row case entry stamp)

-- ---- what it means to write members, a token at a time

-- these tokens were added, and nothing was written otherwise
abbrev pub Adds : (old new : Written) → List Token → Type 0
Adds old new tokens = (new.tokens ≡ old.tokens ++ tokens) × (new.before ≡ old.before)

-- a member was added: its key, and its value
abbrev pub AddsMember : (old new : Written) → (key : List ℕ) → Json → Type 0
AddsMember old new key value = Adds old new (Token.key key ∷ json_tokens value)

-- members were added, so that a brace after them ends their object
abbrev pub AddsMembers : (old new : Written) → Members → Type 0
AddsMembers old new members = (new.tokens ++ Token.end_object ∷ [] ≡ old.tokens ++ members_tokens members) × (new.before ≡ old.before)
