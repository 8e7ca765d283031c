-- The line and the column of a place in a text.
use Rattle.std.specs.Prelude.{ℕ, ◌+◌, ◌==◌, ◌||◌, nat_lt, nat_le, Bool, List, [], ◌∷◌, ◌++◌, take, count_by, if◌then◌else◌}
use Rattle.std.specs.List.{list_any}
use Rattle.std.specs.Fmt.{decimal}

-- the byte LF, with which a line ends
abbrev pub is_line_end : ℕ → Bool
is_line_end b = b == 10

-- the first byte of a character in UTF-8: not one from 128 to 191
abbrev pub starts_character : ℕ → Bool
starts_character b = nat_lt b 128 || nat_le 192 b

-- what comes after the last end of a line
abbrev pub last_line : List ℕ → List ℕ
last_line [] = []
last_line (b ∷ bs) = if list_any is_line_end (b ∷ bs) then last_line bs else (b ∷ bs)

-- the line of the place before which there are this many bytes: one more than the ends of lines before it
abbrev pub line_of : List ℕ → ℕ → ℕ
line_of text at = 1 + count_by is_line_end (take at text)

-- its column: one more than the characters before it in its line
abbrev pub column_of : List ℕ → ℕ → ℕ
column_of text at = 1 + count_by starts_character (last_line (take at text))

-- `12:15`
abbrev pub place_text : ℕ → ℕ → List ℕ
place_text line column = decimal line ++ 58 ∷ [] ++ decimal column
