-- What is written of the rows whose answers a correction changes.
use Rattle.std.specs.Prelude.{ℕ, ◌&&◌, Bool, true, false, not, List, [], ◌∷◌, ◌++◌, Option, Some, None, codes, nat_eq, unwrap_or, if◌then◌else◌}
use Rattle.std.specs.Fmt.{decimal}
use Rattle.std.specs.List.{flat_map, starts_with}
use Rattle.desk_entries.specs.Past.{answer_in}
use Rattle.desk_program.specs.Changed.{ChangedRowView}

-- what comes after the first blank; nothing where there is none
abbrev pub after_blank : List ℕ → List ℕ
after_blank [] = []
after_blank (byte ∷ rest) = if nat_eq byte 32 then rest else after_blank rest

-- what follows the two numbers of an answer says that the row was done: it is no refusal and no fault
abbrev pub says_done : (said : List ℕ) → Bool
says_done said = not (starts_with nat_eq said (codes "refused ")) && not (starts_with nat_eq said (codes "fault "))

-- An answer says that the row of that number was done, as `9 1 timely` does, and not `9 1 refused 4 NoSuchDeadline` or
-- `9 1 fault 4 BadField 3`.
abbrev pub is_done : (number : ℕ) → (answer : List ℕ) → Bool
is_done number answer = starts_with nat_eq answer (decimal number ++ codes " ") && says_done (after_blank (after_blank answer))

-- a line that marks a row which was done and would not be, or the other way round
abbrev pub mark_text : (number : ℕ) → (was is : Bool) → List ℕ
mark_text number true false = codes "row " ++ decimal number ++ codes " was done and would no longer be\n"
mark_text number false true = codes "row " ++ decimal number ++ codes " was not done and would be\n"
mark_text number true true = []
mark_text number false false = []

-- the answer that the row has now
abbrev pub answer_now : ChangedRowView → List ℕ
answer_now row = unwrap_or row.had (answer_in row.entry)

-- that answer, where it isn't the one that the entry keeps
abbrev pub had_text : (number : ℕ) → Option (List ℕ) → List ℕ
had_text number None = []
had_text number (Some had) = codes "row " ++ decimal number ++ codes " is answered now\n" ++ had

-- the row's entry, which ends with the answer that it was given
abbrev pub kept_text : (number : ℕ) → (entry : List ℕ) → List ℕ
kept_text number entry = codes "row " ++ decimal number ++ codes " is kept as\n" ++ entry

-- the mark of a row that is done only before, or only after
abbrev pub mark_of : ChangedRowView → List ℕ
mark_of row = mark_text row.number (is_done row.number (answer_now row)) (is_done row.number row.answer)

-- the answer that it would get, and the mark
abbrev pub answer_text : (answer mark : List ℕ) → List ℕ
answer_text answer mark = codes "and would be answered\n" ++ answer ++ mark

-- a row that would be answered otherwise than now: its entry, the answer that it has now, and the other one
unfoldable pub change_text : ChangedRowView → List ℕ
change_text row = kept_text row.number row.entry ++ had_text row.number row.had ++ answer_text row.answer (mark_of row)

abbrev pub changes_text : List ChangedRowView → List ℕ
changes_text rows = flat_map change_text rows
