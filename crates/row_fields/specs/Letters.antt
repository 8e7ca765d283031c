-- Letters and digits of a text, in which each number stays whole.
use Rattle.std.specs.Prelude.{ℕ, ◌==◌, ◌&&◌, ◌||◌, not, nat_le, nat_lt, Bool, true, false, List, [], ◌∷◌, ◌++◌, if◌then◌else◌}
use Rattle.std.specs.Char.{is_ascii_alphabetic, is_ascii_alphanumeric, is_ascii_digit, to_ascii_lowercase}

-- a byte as a small letter; one that isn't ASCII is a question mark, which no plain field has
abbrev pub small : ℕ → ℕ
small b = if nat_lt b 128 then to_ascii_lowercase b else 63

-- a byte that goes on with a character that isn't ASCII
abbrev pub goes_on : ℕ → Bool
goes_on b = nat_le 128 b && nat_lt b 192

-- After the byte that stayed last, this one is no letter and no digit.
abbrev pub is_other : (last b : ℕ) → Bool
is_other last b = not (is_ascii_alphanumeric b)

-- After the byte that stayed last, this one is a blank, a dot after a letter, or goes on with a character.
abbrev pub is_slack : (last b : ℕ) → Bool
is_slack last b = (b == 32) || (b == 46) && is_ascii_alphabetic last || goes_on b

-- A byte that stays after the one that stayed last, as a small letter. Where bytes between two digits were left out, a blank
-- comes before it: they are digits of two numbers.
abbrev pub staying : (gap : Bool) → (last b : ℕ) → List ℕ
staying gap last b = if gap && is_ascii_digit last && is_ascii_digit b then 32 ∷ small b ∷ [] else small b ∷ []

-- what stays of a text where bytes are left out, after the byte that stayed last, and perhaps after some that were left out
unfoldable pub stripped : (leaves_out : ℕ → ℕ → Bool) → (last : ℕ) → (gap : Bool) → List ℕ → List ℕ
stripped leaves_out last gap [] = []
stripped leaves_out last gap (b ∷ text) =
    if leaves_out last b then stripped leaves_out last true text
    else staying gap last b ++ stripped leaves_out b false text

-- a text in small letters, with its letters and digits alone: `59e` for `59(E)`, and `5 9e` for `5 9(E)`
abbrev pub folded : List ℕ → List ℕ
folded text = stripped is_other 0 false text

-- a text in small letters, without its blanks and without dots after letters: `2:15pm` for `2:15 P.M.`, and `1 2:15` for
-- `1 2:15`; each character that isn't ASCII is a question mark
abbrev pub bare : List ℕ → List ℕ
bare text = stripped is_slack 0 false text
