-- Spaces up to the next column.
use Rattle.std.specs.Prelude.{ℕ, ◌-◌, List, ◌++◌, length, replicate}

-- a text and spaces after it, 50 characters wide unless the text is wider
abbrev pub padded : List ℕ → List ℕ
padded text = text ++ replicate (50 - length text) 32
