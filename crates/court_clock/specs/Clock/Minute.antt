-- Minutes of a day, and their text.
use Rattle.std.specs.Prelude.{ℕ, ◌+◌, ◌-◌, ◌*◌, ◌/◌, ◌%◌, nat_lt, ◌==◌, ◌&&◌, List, [], ◌∷◌, ◌++◌, Option, Some, None, if◌then◌else◌}
use Rattle.std.specs.Char.{is_ascii_digit}
use Rattle.jiff_fmt.specs.Text.{pad2}

-- the number that two decimal digits spell
abbrev pub two_digits : ℕ → ℕ → Option ℕ
two_digits tens units =
    if is_ascii_digit tens && is_ascii_digit units then Some (10 * (tens - 48) + (units - 48)) else None

-- the minute of the day, counted from midnight, at an hour below 24 and a minute below 60
abbrev pub minute_at : Option ℕ → Option ℕ → Option ℕ
minute_at None _ = None
minute_at (Some hour) None = None
minute_at (Some hour) (Some minute) = if nat_lt hour 24 && nat_lt minute 60 then Some (60 * hour + minute) else None

-- the minute of the day that a text `HH:MM` names, from 00:00 to 23:59
abbrev pub minute_of_text : List ℕ → Option ℕ
minute_of_text (h ∷ hh ∷ colon ∷ m ∷ mm ∷ []) = if colon == 58 then minute_at (two_digits h hh) (two_digits m mm) else None
minute_of_text _ = None

-- `09:30`
abbrev pub minute_text : ℕ → List ℕ
minute_text minute = pad2 (minute / 60) ++ 58 ∷ [] ++ pad2 (minute % 60)
