-- Days and instants, as iCalendar writes them (RFC 5545, 3.3.4 and 3.3.5).
use Rattle.std.specs.Prelude.{ℕ, ◌+◌, ◌/◌, ◌%◌, ◌==◌, ℤ, pos, unsigned_abs, List, [], ◌∷◌, ◌++◌, if◌then◌else◌}
use Rattle.std.specs.Int.{int_div_euclid, int_rem_euclid}
use Rattle.std.specs.List.{flat_map}
use Rattle.court_clock.specs.Words.{day_text, is_day_number}

-- a byte of a date; a dash, which is 45, is left out
abbrev pub undashed : ℕ → List ℕ
undashed b = if b == 45 then [] else b ∷ []

-- `20250916`: the date of the day of that number, without its dashes; a number that is no day's has none
unfoldable pub date_digits : (number : ℤ) → List ℕ
date_digits number = if is_day_number number then flat_map undashed (day_text number) else []

-- a number below 100, in two digits
abbrev pub two_digits : ℕ → List ℕ
two_digits n = (48 + n / 10) ∷ (48 + n % 10) ∷ []

-- `140000`, of a second of the day counted from midnight
unfoldable pub time_digits : (second : ℕ) → List ℕ
time_digits second = two_digits (second / 3600) ++ two_digits (second / 60 % 60) ++ two_digits (second % 60)

-- the day of UTC in which an instant is, and its second of that day
abbrev pub utc_day : (instant : ℤ) → ℤ
utc_day instant = int_div_euclid instant (pos 86_400)

abbrev pub utc_second : (instant : ℤ) → ℕ
utc_second instant = unsigned_abs (int_rem_euclid instant (pos 86_400))

-- `20250916T140000Z`
unfoldable pub utc_text : (instant : ℤ) → List ℕ
utc_text instant = date_digits (utc_day instant) ++ 84 ∷ time_digits (utc_second instant) ++ 90 ∷ []
