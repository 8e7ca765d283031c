-- Times of day.
use Rattle.std.specs.Prelude.{ℕ, ◌/◌, ◌%◌, nat_lt, List, [], ◌∷◌, ◌++◌, Option, Some, None, codes, if◌then◌else◌}
use Rattle.std.specs.Fmt.{decimal}
use Rattle.court_clock.specs.Words.{CivilTime}

-- a number with at least two digits
unfoldable pub two_digits : ℕ → List ℕ
two_digits n = if nat_lt n 10 then 48 ∷ decimal n else decimal n

-- `15:00:00`, of a second of the day counted from midnight
unfoldable pub second_time : ℕ → List ℕ
second_time second = two_digits (second / 3600) ++ 58 ∷ two_digits (second / 60 % 60) ++ 58 ∷ two_digits (second % 60)

-- `15:00`, of a minute of the day counted from midnight
unfoldable pub minute_time : ℕ → List ℕ
minute_time minute = two_digits (minute / 60) ++ 58 ∷ two_digits (minute % 60)

-- when a day ends: at a minute of it, which may be given, or at midnight
abbrev pub day_end_time : Option ℕ → List ℕ
day_end_time (Some minute) = minute_time minute
day_end_time None = codes "midnight"

-- the time that the court's clock shows; it shows one on every day that is covered
abbrev pub time_of_civil : Option CivilTime → List ℕ
time_of_civil (Some at) = second_time at.second
time_of_civil None = []
