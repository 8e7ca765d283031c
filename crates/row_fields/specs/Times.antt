-- Times of day as people write them: 9:30, 09:30, 9:30 AM, 2:15pm, 9 a.m.
use Rattle.std.specs.Prelude.{ℕ, ◌+◌, ◌-◌, ◌%◌, ◌==◌, ◌||◌, nat_eq, nat_le, nat_lt, List, [], ◌∷◌, codes, length, take, Option, Some, None, if◌then◌else◌}
use Rattle.std.specs.List.{ends_with}
use Rattle.court_clock.specs.Words.{minute_at, two_digits}
use Rattle.row_fields.specs.declared.times.Half.{Half}
use Rattle.row_fields.specs.declared.times.Half.TheVariants.{Morning, Afternoon}
use Rattle.row_fields.specs.Letters.{bare}

-- the minute of the day that `9:30` and `09:30` say
abbrev pub minute_said : List ℕ → Option ℕ
minute_said (h ∷ colon ∷ m ∷ n ∷ []) = if colon == 58 then minute_at (two_digits 48 h) (two_digits m n) else None
minute_said (g ∷ h ∷ colon ∷ m ∷ n ∷ []) = if colon == 58 then minute_at (two_digits g h) (two_digits m n) else None
minute_said _ = None

-- that which `9` and `09` say too, before `am` or `pm`
abbrev pub hour_said : List ℕ → Option ℕ
hour_said (h ∷ []) = minute_at (two_digits 48 h) (Some 0)
hour_said (g ∷ h ∷ []) = minute_at (two_digits g h) (Some 0)
hour_said text = minute_said text

-- the minute of the day at which that half of it begins
abbrev pub half_from : Half → ℕ
half_from Morning = 0
half_from Afternoon = 720

-- the minute of the day in that half of it, whose clock goes from 12:00 to 12:59, and from 1:00 to 11:59
abbrev pub in_half : Half → Option ℕ → Option ℕ
in_half half None = None
in_half half (Some minute) = if nat_lt minute 60 || nat_le 780 minute then None else Some (minute % 720 + half_from half)

-- the minute of the day that a text in small letters says, without blanks and dots
abbrev pub bare_said : List ℕ → Option ℕ
bare_said text =
    if ends_with nat_eq text (codes "am") then in_half Morning (hour_said (take (length text - 2) text))
    else if ends_with nat_eq text (codes "pm") then in_half Afternoon (hour_said (take (length text - 2) text))
    else minute_said text

-- the minute of the day that a text says
unfoldable pub time_said : List ℕ → Option ℕ
time_said text = bare_said (bare text)
