-- Days and times of day.
use Rattle.std.specs.Prelude.{ℕ, ◌==◌, ◌/◌, ◌%◌, List, [], ◌∷◌, codes, ℤ, Option, Some, None, option_map, if◌then◌else◌}
use Rattle.std.specs.Option.{option_and_then}
use Rattle.std.specs.Str.{bytes_eq}
use Rattle.court_clock.specs.Words.{day_of_text, minute_of_text}

-- the day that a field says, which may be empty: then there is none
unfoldable pub day_if_given : List ℕ → Option (Option ℤ)
day_if_given [] = Some None
day_if_given (b ∷ field) = option_map Some (day_of_text (b ∷ field))

-- the minute that a field says, which may be empty: then it is 00:00
unfoldable pub minute_or_midnight : List ℕ → Option ℕ
minute_or_midnight [] = Some 0
minute_or_midnight (b ∷ field) = minute_of_text (b ∷ field)

-- the minute at which something ends, which may be `24:00`
unfoldable pub ending_minute : List ℕ → Option ℕ
ending_minute field = if bytes_eq field (codes "24:00") then Some 1440 else minute_of_text field

-- the slot that begins at a time: a slot has 15 minutes, and the first begins at 00:00
unfoldable pub slot_at : List ℕ → Option ℕ
slot_at field = option_and_then (λ minute. if minute % 15 == 0 then Some (minute / 15) else None) (minute_of_text field)
