-- Texts of rows, divided at the ends of lines.
use Rattle.std.specs.Prelude.{◌≡◌, ◌⊎◌, ℕ, Bool, true, List, [], ◌∷◌, ◌++◌, ◌==◌, ◌&&◌, not}
use Rattle.std.specs.List.{list_any}

-- the byte that ends a line, the quote, and the first byte of a byte order mark
abbrev pub line_end : ℕ
line_end = 10

abbrev pub quote : ℕ
quote = 34

abbrev pub first_of_mark : ℕ
first_of_mark = 0xEF

abbrev pub has_byte : ℕ → List ℕ → Bool
has_byte c text = list_any (λ b. b == c) text

-- Each end of a line in the text ends a row, and no part of the text begins with a byte order mark, which would be skipped.
abbrev pub can_be_divided : List ℕ → Bool
can_be_divided text = not (has_byte quote text) && not (has_byte first_of_mark text)

-- the last byte ends a line; of no bytes, `begins` says whether a line begins there
unfoldable pub ends_line : Bool → List ℕ → Bool
ends_line begins [] = begins
ends_line begins (b ∷ text) = ends_line (b == line_end) text

-- the text in two parts, of which the first ends with a line unless it is all of the text
pub record AreParts (text first later : List ℕ) : Type 0 where
  pub whole : first ++ later ≡ text
  pub cut : (ends_line true first ≡ true) ⊎ (later ≡ [])
