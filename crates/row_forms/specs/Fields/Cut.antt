-- Texts that a byte divides.
use Rattle.std.specs.Prelude.{ℕ, ◌==◌, Bool, List, length, nat_lt, Option, Some, None, if◌then◌else◌}
use Rattle.std.specs.List.{before_first, after_first, position_or_len}

-- the byte is this one
abbrev pub is_byte : ℕ → ℕ → Bool
is_byte mark b = b == mark

-- the text before the first such byte, and the text after it
unfoldable pub cut_at : ℕ → List ℕ → Option (List ℕ × List ℕ)
cut_at mark text =
    if nat_lt (position_or_len (is_byte mark) text) (length text)
    then Some (before_first (is_byte mark) text, after_first (is_byte mark) text)
    else None
