-- An entry as the log's text has it: what it is, when it was kept and by whom, and what it says.
use Rattle.std.specs.Prelude.{ℕ, ◌-◌, ◌/◌, ◌%◌, ℤ, pos, List, [], ◌∷◌, ◌++◌, Option, Some, None, codes, length, nat_eq, take, if◌then◌else◌}
use Rattle.std.specs.Fmt.{decimal}
use Rattle.std.specs.List.{ends_with}
use Rattle.court_clock.specs.Words.{day_text, is_day_number}
use Rattle.reason_texts.specs.Words.{second_time}
use Rattle.desk_journal.specs.Words.{StampView}
use Rattle.desk_numbers.specs.Strikes.Words.{remark_in}
use Rattle.desk_program.specs.declared.entry_kind.EntryKind.{EntryKind}
use Rattle.desk_program.specs.declared.entry_kind.EntryKind.TheVariants.{CourtFile, Restore, Row, Strike}
use Rattle.desk_program.specs.declared.shown.LineEnds.TheVariants.{Escaped, Indented}
use Rattle.desk_program.specs.Shown.{shown}

-- `row 12`, `court's file`, `strike of row 7`, or `restore of row 7`
abbrev pub kind_text : EntryKind → (number : ℕ) → List ℕ
kind_text Row number = codes "row " ++ decimal number
kind_text CourtFile number = codes "court's file"
kind_text (Strike row) number = codes "strike of row " ++ decimal row
kind_text (Restore row) number = codes "restore of row " ++ decimal row

-- the day of a second of UTC, counted from 1970-01-01T00:00:00, if it is one that has a date
abbrev pub dated_day : (time : ℕ) → Option ℤ
dated_day time = if is_day_number (pos (time / 86_400)) then Some (pos (time / 86_400)) else None

-- `2026-11-28 00:50:07 UTC`, or the second by its number where the day has no date: `second 99999999999 UTC`
abbrev pub utc_time_on : Option ℤ → (time : ℕ) → List ℕ
utc_time_on (Some day) time = day_text day ++ codes " " ++ second_time (time % 86_400) ++ codes " UTC"
utc_time_on None time = codes "second " ++ decimal time ++ codes " UTC"

abbrev pub utc_time : (time : ℕ) → List ℕ
utc_time time = utc_time_on (dated_day time) time

-- the line of an entry: what it is, when it was kept, and by which account
abbrev pub entry_heading : (kind : List ℕ) → StampView → List ℕ
entry_heading kind stamp = kind ++ codes "  " ++ utc_time stamp.time ++ codes "  " ++ shown Escaped stamp.account ++ codes "\n"

-- a text without the end of its last line
abbrev pub without_end : List ℕ → List ℕ
without_end text = if ends_with nat_eq text (10 ∷ []) then take (length text - 1) text else text

-- a text with two blanks before each of its lines
abbrev pub indented : List ℕ → List ℕ
indented text = codes "  " ++ shown Indented (without_end text) ++ codes "\n"

-- what an entry says: a row with its answer, or the remark of a strike or a restore; the many lines of a court's file aren't written
abbrev pub said_text : EntryKind → (entry : List ℕ) → List ℕ
said_text Row entry = indented entry
said_text CourtFile entry = []
said_text (Strike row) entry = indented (remark_in entry)
said_text (Restore row) entry = indented (remark_in entry)

abbrev pub entry_text : EntryKind → (number : ℕ) → (entry : List ℕ) → StampView → List ℕ
entry_text kind number entry stamp = entry_heading (kind_text kind number) stamp ++ said_text kind entry
