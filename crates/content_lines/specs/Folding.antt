-- Content lines, and how they are folded (RFC 5545, 3.1). A line ends with CR LF, bytes 13 and 10, and has at most 75 bytes
-- without them. A longer one is cut by CR LF and a space.
use Rattle.std.specs.Prelude.{◌≡◌, ℕ, ◌-◌, ◌==◌, ◌≤◌, nat_le, nat_lt, Bool, true, false, ◌&&◌, ◌||◌, not, List, [], ◌∷◌, ◌++◌, length, if◌then◌else◌}
use Rattle.std.specs.List.{list_all}

-- how many bytes the character has that begins with this byte, in UTF-8; no character begins with a byte from 128 to 191
abbrev pub width : ℕ → ℕ
width b = if nat_lt b 128 then 1 else if nat_lt b 192 then 0 else if nat_lt b 224 then 2 else if nat_lt b 240 then 3 else 4

-- the rest of a content line, where the line that is sent has room for this many bytes more: a character for which there is no
-- room comes after a fold
unfoldable pub folded : (room : ℕ) → List ℕ → List ℕ
folded room [] = []
folded room (b ∷ bs) = if nat_le (width b) room then b ∷ folded (room - 1) bs else 13 ∷ 10 ∷ 32 ∷ b ∷ folded 73 bs

-- a content line as it is sent
unfoldable pub sent_line : List ℕ → List ℕ
sent_line line = folded 75 line ++ 13 ∷ 10 ∷ []

-- a content line and its end
abbrev pub ended_line : List ℕ → List ℕ
ended_line line = line ++ 13 ∷ 10 ∷ []

-- a space or a tab
abbrev pub is_blank : ℕ → Bool
is_blank b = b == 32 || b == 9

-- the line end and the blank of a fold
abbrev pub is_fold : (a b c : ℕ) → Bool
is_fold a b c = a == 13 && b == 10 && is_blank c

-- what unfolding makes of a text: it takes out each line end that a blank follows, with the blank
unfoldable pub unfolded : List ℕ → List ℕ
unfolded [] = []
unfolded (a ∷ []) = a ∷ []
unfolded (a ∷ b ∷ []) = a ∷ b ∷ []
unfolded (a ∷ b ∷ c ∷ rest) = if is_fold a b c then unfolded rest else a ∷ unfolded (b ∷ c ∷ rest)

-- a byte that is no part of a line end
abbrev pub is_inside : ℕ → Bool
is_inside b = not (b == 13 || b == 10)

abbrev pub begins_with_blank : List ℕ → Bool
begins_with_blank [] = false
begins_with_blank (b ∷ bs) = is_blank b

-- a line that can be sent: it has no line end, and doesn't begin with a blank
abbrev pub is_content_line : List ℕ → Bool
is_content_line line = list_all is_inside line && not (begins_with_blank line)

-- no line of the text has more than 75 bytes: a piece of it without a line end has at most 75
abbrev pub HasShortLines : List ℕ → Type 0
HasShortLines text = (front piece back : List ℕ) → text ≡ front ++ piece ++ back → list_all is_inside piece ≡ true → length piece ≤ 75

-- no byte from 128 to 191, which is inside a character, comes after the space of a fold
abbrev pub HasWholeCharacters : List ℕ → Type 0
HasWholeCharacters text = (front back : List ℕ) (b : ℕ) → text ≡ front ++ 13 ∷ 10 ∷ 32 ∷ b ∷ back → (nat_le 128 b && nat_lt b 192) ≡ false
