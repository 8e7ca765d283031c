-- Texts by which a case, a deadline or a motion is called.
use Rattle.std.specs.Prelude.{ℕ, nat_le, Bool, not, ◌&&◌, List, length, Option, Some, None, if◌then◌else◌}
use Rattle.court_file_text.specs.Words.{has_control}

-- how many bytes such a text has at most
abbrev pub most_text : ℕ
most_text = 200

-- a text can call something: it has 1 to 200 bytes, and no control character
abbrev pub is_text : List ℕ → Bool
is_text text = nat_le 1 (length text) && nat_le (length text) most_text && not (has_control text)

-- how many bytes the text has that a field says, if it can call something
unfoldable pub text_length : List ℕ → Option ℕ
text_length field = if is_text field then Some (length field) else None
