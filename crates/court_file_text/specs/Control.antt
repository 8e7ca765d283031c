-- Control characters, which no text has that is shown in a line.
use Rattle.std.specs.Prelude.{ℕ, ◌==◌, nat_lt, Bool, true, false, ◌&&◌, ◌||◌, List, [], ◌∷◌, if◌then◌else◌}

-- a byte is an ASCII control character: one of C0, or DEL
abbrev pub is_control_byte : ℕ → Bool
is_control_byte byte = nat_lt byte 32 || (byte == 127)

-- A control character begins with a byte, before others in UTF-8: one of ASCII, or one of C1, U+0080 to U+009F, whose first byte is 194 and
-- whose second is below 160.
abbrev pub begins_control : (byte : ℕ) → (rest : List ℕ) → Bool
begins_control byte [] = is_control_byte byte
begins_control byte (next ∷ rest) = is_control_byte byte || ((byte == 194) && nat_lt next 160)

-- a text in UTF-8 has a control character
unfoldable pub has_control : List ℕ → Bool
has_control [] = false
has_control (byte ∷ rest) = if begins_control byte rest then true else has_control rest
