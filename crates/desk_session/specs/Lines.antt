-- The lines of bytes.
use Rattle.std.specs.Prelude.{◌≡◌, ℕ, ◌+◌, List, [], ◌∷◌, ◌++◌, codes, drop, map, nat_eq, All, Bool, true, false, Option, Some, None, ◌==◌, ◌||◌, if◌then◌else◌}
use Rattle.std.specs.List.{starts_with}

-- whether a byte ends a line: a line feed or a carriage return, so that of the two together the second ends an empty line
abbrev pub ends_line : ℕ → Bool
ends_line byte = (byte == 10) || (byte == 13)

-- the lines that bytes end, without their ends, where a line has begun with these bytes
unfoldable pub lines_from : (begun : List ℕ) → List ℕ → List (List ℕ)
lines_from begun [] = []
lines_from begun (byte ∷ bytes) = if ends_line byte then begun ∷ lines_from [] bytes else lines_from (begun ++ byte ∷ []) bytes

-- what comes after the last end
unfoldable pub unfinished_from : (begun : List ℕ) → List ℕ → List ℕ
unfinished_from begun [] = begun
unfinished_from begun (byte ∷ bytes) = if ends_line byte then unfinished_from [] bytes else unfinished_from (begun ++ byte ∷ []) bytes

-- the lines of bytes that have an end
abbrev pub lines_of : List ℕ → List (List ℕ)
lines_of bytes = lines_from [] bytes

-- a last line that has no end
abbrev pub unfinished_of : List ℕ → List ℕ
unfinished_of bytes = unfinished_from [] bytes

-- no line has an end
abbrev pub HasNoEnd : List ℕ → Type 0
HasNoEnd bytes = All (λ byte. ends_line byte ≡ false) bytes

-- the first line of bytes, the byte that ends it, and what comes after it
pub record IsFirstLine (bytes line : List ℕ) (end : ℕ) (rest : List ℕ) : Type 0 where
  pub parts : bytes ≡ line ++ end ∷ rest
  pub within : HasNoEnd line
  pub ends : ends_line end ≡ true

-- the number of the line after this end in a file, whose lines are counted by their line feeds
abbrev pub number_after : (number end : ℕ) → ℕ
number_after number end = if end == 10 then number + 1 else number

-- the lines that bytes end, as above, each with its number
unfoldable pub numbered_from : (number : ℕ) → (begun : List ℕ) → List ℕ → List (ℕ × List ℕ)
numbered_from number begun [] = []
numbered_from number begun (byte ∷ bytes) = if ends_line byte then (number, begun) ∷ numbered_from (number_after number byte) [] bytes else numbered_from number (begun ++ byte ∷ []) bytes

-- the lines of bytes that have an end, each with its number in a file, counted from 1
abbrev pub numbered_lines : List ℕ → List (ℕ × List ℕ)
numbered_lines bytes = numbered_from 1 [] bytes

-- The lines that are numbered are all lines, in their order.
abbrev pub NumberedLinesAreLines : Type 0
NumberedLinesAreLines = (bytes : List ℕ) → map (λ line. line.1) (numbered_lines bytes) ≡ lines_of bytes

-- A clerk may mark a line with a '!' before it: what comes after the mark of a line that has one.
abbrev pub after_mark : (line : List ℕ) → Option (List ℕ)
after_mark line = if starts_with nat_eq line (codes "!") then Some (drop 1 line) else None

abbrev pub or_whole : (line : List ℕ) → (rest : Option (List ℕ)) → List ℕ
or_whole line None = line
or_whole line (Some rest) = rest

abbrev pub mark_before : (rest : Option (List ℕ)) → List ℕ
mark_before None = []
mark_before (Some rest) = codes "!"

-- a line without its mark, and the mark, where lines may be marked
abbrev pub unmarked : (marked : Bool) → (line : List ℕ) → List ℕ
unmarked false line = line
unmarked true line = or_whole line (after_mark line)

abbrev pub mark_of : (marked : Bool) → (line : List ℕ) → List ℕ
mark_of false line = []
mark_of true line = mark_before (after_mark line)

-- lines with their numbers, each without its mark
abbrev pub unmarked_lines : (marked : Bool) → List (ℕ × List ℕ) → List (ℕ × List ℕ)
unmarked_lines marked lines = map (λ (line : ℕ × List ℕ). (line.0, unmarked marked line.1)) lines
