-- Bytes as they are shown: no control character of a text reaches a terminal.
use Rattle.std.specs.Prelude.{ℕ, ◌+◌, ◌/◌, ◌%◌, ◌&&◌, ◌||◌, not, Bool, List, [], ◌∷◌, ◌++◌, codes, nat_eq, nat_lt, if◌then◌else◌}
use Rattle.desk_program.specs.declared.shown.LineEnds.{LineEnds}
use Rattle.desk_program.specs.declared.shown.LineEnds.TheVariants.{Escaped, Indented, Kept}

-- a digit to the base 16
abbrev pub hex_digit : ℕ → ℕ
hex_digit n = if nat_lt n 10 then 48 + n else 87 + n

-- a control character as it is shown, by its number: `\x1b`
abbrev pub escaped : ℕ → List ℕ
escaped number = codes "\\x" ++ hex_digit (number / 16) ∷ hex_digit (number % 16) ∷ []

-- the end of a line as it is shown
abbrev pub end_shown : LineEnds → List ℕ
end_shown Escaped = escaped 10
end_shown Kept = 10 ∷ []
end_shown Indented = codes "\n  "

-- a byte as it is shown: those below 32, and 127, are control characters
abbrev pub byte_shown : LineEnds → ℕ → List ℕ
byte_shown ends byte = if nat_eq byte 10 then end_shown ends else if nat_lt byte 32 || nat_eq byte 127 then escaped byte else byte ∷ []

-- two bytes that are one of the control characters U+0080 to U+009F, in UTF-8: the second is its number
abbrev pub are_control : (first second : ℕ) → Bool
are_control first second = nat_eq first 194 && not (nat_lt second 128) && nat_lt second 160

unfoldable pub shown : LineEnds → List ℕ → List ℕ
shown ends [] = []
shown ends (byte ∷ []) = byte_shown ends byte
shown ends (byte ∷ next ∷ bytes) = if are_control byte next then escaped next ++ shown ends bytes else byte_shown ends byte ++ shown ends (next ∷ bytes)

-- a text with lines, of which the ends stay
abbrev pub lines_shown : List ℕ → List ℕ
lines_shown bytes = shown Kept bytes
