-- Bytes with short lines: of a line with more than 65,535 bytes the first 65,535 stay, and after them comes the byte 255, in
-- place of the next one. No text has that byte, so what is left of the line isn't taken for a line that somebody wrote. With
-- one byte more the line ends: a line feed is in place of that byte, and those after it, up to the line's own end and with it,
-- are left out.
use Rattle.std.specs.Prelude.{◌≡◌, ◌+◌, ◌<◌, ◌≤◌, ℕ, min, List, [], ◌∷◌, ◌++◌, All, false, length, map, take, nat_lt, not, Option, option_map, ◌==◌, ◌&&◌, if◌then◌else◌}
use Rattle.std.specs.Str.{is_utf8}
use Rattle.desk_session.specs.declared.short_lines.ShortLines.{ShortLines}
use Rattle.desk_session.specs.Faults.{HasLongLine}
use Rattle.desk_session.specs.Lines.{ends_line, lines_of, unfinished_of}

-- how many bytes a line has at most that stays as it is, without its end
unfoldable pub most_whole : ℕ
most_whole = 65_535

-- how many bytes a line has at most that is passed on, as in a session
unfoldable pub most_line : ℕ
most_line = 65_536

-- What is passed on of a byte, after `count` bytes of its line: nothing where the line has been ended, in place of the second
-- byte too many the line's end, and in place of the first the byte 255.
abbrev pub passed_on : (count byte : ℕ) → List ℕ
passed_on count byte =
    if nat_lt most_line count then []
    else if (count == most_line) && not (ends_line byte) then 10 ∷ []
    else if (count == most_whole) && not (ends_line byte) then 255 ∷ []
    else byte ∷ []

-- How many bytes of the line have come then: one more than the most that are passed on says that it has been ended.
abbrev pub count_with : (count byte : ℕ) → ℕ
count_with count byte = if ends_line byte then 0 else min count most_line + 1

-- bytes with short lines, where `count` bytes of the first line have come before
unfoldable pub short_from : (count : ℕ) → List ℕ → List ℕ
short_from count [] = []
short_from count (byte ∷ bytes) = passed_on count byte ++ short_from (count_with count byte) bytes

-- how many bytes of the last line have come after them
unfoldable pub count_after : (count : ℕ) → List ℕ → ℕ
count_after count [] = count
count_after count (byte ∷ bytes) = count_after (count_with count byte) bytes

abbrev pub short_lines : List ℕ → List ℕ
short_lines bytes = short_from 0 bytes

-- what a reader with short lines will give from here on, where that is known
abbrev pub short_remaining : {R : Type 0} → (remaining : R → Option (List ℕ)) → ShortLines R → Option (List ℕ)
short_remaining remaining reader = option_map (short_from reader.count) (remaining reader.inner)

-- no line of bytes has more bytes than that, nor has a last one without an end
pub record HasLinesWithin (most : ℕ) (bytes : List ℕ) : Type 0 where
  pub lines : All (λ line. length line ≤ most) (lines_of bytes)
  pub last : length (unfinished_of bytes) ≤ most

abbrev pub ShortLinesAreShort : Type 0
ShortLinesAreShort = (bytes : List ℕ) → HasLinesWithin most_line (short_lines bytes)

-- So no session ends for a line that is too long.
abbrev pub ShortLinesStopNone : Type 0
ShortLinesStopNone = (bytes : List ℕ) → ¬ (HasLongLine [] (short_lines bytes))

-- Bytes without a line that is too long stay as they are.
abbrev pub ShortLinesStay : Type 0
ShortLinesStay = (bytes : List ℕ) → HasLinesWithin most_whole bytes → short_lines bytes ≡ bytes

-- A line as it is passed on: of one with too many bytes the first that fit, and then the byte 255.
unfoldable pub cut : (line : List ℕ) → List ℕ
cut line = if nat_lt most_whole (length line) then take most_whole line ++ 255 ∷ [] else line

-- A last line that has no end gets one where it has two bytes too many: then it is one of the lines, and none is left open.
abbrev pub ended_last : (last : List ℕ) → List (List ℕ)
ended_last last = if nat_lt most_line (length last) then last ∷ [] else []

abbrev pub open_last : (last : List ℕ) → List ℕ
open_last last = if nat_lt most_line (length last) then [] else cut last

-- `short` has the lines of `bytes`, in their order, each as it is passed on
pub record HasLinesCut (bytes short : List ℕ) : Type 0 where
  pub lines : lines_of short ≡ map cut (lines_of bytes ++ ended_last (unfinished_of bytes))
  pub last : unfinished_of short ≡ open_last (unfinished_of bytes)

-- So a line that is too long takes nothing from the lines before and after it.
abbrev pub LongLinesAreCut : Type 0
LongLinesAreCut = (bytes : List ℕ) → HasLinesCut bytes (short_lines bytes)

-- What is left of a line that is too long is no text in UTF-8.
abbrev pub CutLinesAreNoText : Type 0
CutLinesAreNoText = (line : List ℕ) → most_whole < length line → is_utf8 (cut line) ≡ false
