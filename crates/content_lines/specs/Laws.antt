-- What folding, escaping and the texts of instants mean.
use Rattle.std.specs.Prelude.{◌≡◌, ◌<◌, ℕ, ℤ, true, List}
use Rattle.std.specs.List.{flat_map, list_all}
use Rattle.std.specs.Str.{IsUtf8}
use Rattle.court_clock.specs.Words.{second_of}
use Rattle.content_lines.specs.Escaping.{escaped, unescaped, is_kept}
use Rattle.content_lines.specs.Folding.{ended_line, is_content_line, unfolded, HasShortLines, HasWholeCharacters}
use Rattle.content_lines.specs.Property.{sent}
use Rattle.content_lines.specs.Times.{utc_day, utc_second}

-- unfolding what is sent of some lines gives the lines, each with its end
abbrev pub UnfoldingGivesTheLines : Type 0
UnfoldingGivesTheLines = (lines : List (List ℕ)) → list_all is_content_line lines ≡ true → unfolded (sent lines) ≡ flat_map ended_line lines

-- what is sent of some lines has no line of more than 75 bytes, if it is text in UTF-8
abbrev pub SentLinesAreShort : Type 0
SentLinesAreShort = (lines : List (List ℕ)) → IsUtf8 (sent lines) → HasShortLines (sent lines)

-- what is sent of some lines is folded between characters alone
abbrev pub FoldsAreBetweenCharacters : Type 0
FoldsAreBetweenCharacters = (lines : List (List ℕ)) → list_all is_content_line lines ≡ true → HasWholeCharacters (sent lines)

-- a text without control characters, but for tabs and line feeds, is what is read of its value
abbrev pub EscapedValuesReadBack : Type 0
EscapedValuesReadBack = (text : List ℕ) → list_all is_kept text ≡ true → unescaped (escaped text) ≡ text

-- an instant is that second of that day of UTC
pub record IsInUtc (instant day : ℤ) (second : ℕ) : Type 0 where
  pub within : second < 86_400
  pub same : second_of day second ≡ instant

abbrev pub InstantsAreInUtc : Type 0
InstantsAreInUtc = (instant : ℤ) → IsInUtc instant (utc_day instant) (utc_second instant)
