-- Values of texts, and how they are escaped (RFC 5545, 3.3.11).
use Rattle.std.specs.Prelude.{ℕ, ◌==◌, nat_lt, Bool, ◌&&◌, ◌||◌, not, List, [], ◌∷◌, if◌then◌else◌}
use Rattle.std.specs.List.{flat_map}

-- a control character: a byte below 32, or 127. A value may have a tab, which is 9, and no other
abbrev pub is_control : ℕ → Bool
is_control b = (nat_lt b 32 && not (b == 9)) || b == 127

-- a comma, a semicolon or a backslash
abbrev pub is_special : ℕ → Bool
is_special b = b == 44 || b == 59 || b == 92

-- a line feed, which is 10, is written as a backslash and an `n`; after a backslash come those; another control character is
-- left out
abbrev pub escaped_byte : ℕ → List ℕ
escaped_byte b =
    if b == 10 then 92 ∷ 110 ∷ []
    else if is_special b then 92 ∷ b ∷ []
    else if is_control b then []
    else b ∷ []

-- a text as a value has it
abbrev pub escaped : List ℕ → List ℕ
escaped text = flat_map escaped_byte text

-- what comes after a backslash: an `n` or an `N` stands for a line feed, and any other byte for itself
abbrev pub meant : ℕ → ℕ
meant b = if b == 110 || b == 78 then 10 else b

-- the text that a value has
unfoldable pub unescaped : List ℕ → List ℕ
unescaped [] = []
unescaped (a ∷ []) = a ∷ []
unescaped (a ∷ b ∷ rest) = if a == 92 then meant b ∷ unescaped rest else a ∷ unescaped (b ∷ rest)

-- a byte that a value can have: no control character, or a line feed
abbrev pub is_kept : ℕ → Bool
is_kept b = not (is_control b) || b == 10
