-- Numbers, as rows write them.
use Rattle.std.specs.Prelude.{ℕ, ◌-◌, ◌==◌, ◌&&◌, Bool, not, List, [], ◌∷◌, length, take, nat_eq, nat_lt, nat_le, slice_index, Option, Some, None, if◌then◌else◌}
use Rattle.std.specs.Char.{is_ascii_digit}
use Rattle.std.specs.List.{ends_with, list_all}
use Rattle.std.specs.Str.Parse.{digits_value}

-- one to nine decimal digits, with no leading zero but `0` itself
abbrev pub is_number : List ℕ → Bool
is_number text =
    (nat_le 1 (length text) && nat_le (length text) 9)
    && (not (nat_lt 1 (length text) && (slice_index text 0 == 48)) && list_all is_ascii_digit text)

-- the number that a text writes
unfoldable pub number_of : List ℕ → Option ℕ
number_of text = if is_number text then Some (digits_value 10 text) else None

-- a number followed by this unit
unfoldable pub count_of : ℕ → List ℕ → Option ℕ
count_of unit text = if ends_with nat_eq text (unit ∷ []) then number_of (take (length text - 1) text) else None
