-- The text of an instant, read: `20250901T120000Z`.
use Rattle.std.specs.Prelude.{ℕ, ◌+◌, ◌*◌, ◌==◌, nat_lt, ℤ, ◌&&◌, List, [], ◌∷◌, length, slice_index, Option, Some, None, if◌then◌else◌}
use Rattle.std.specs.Char.{is_ascii_digit}
use Rattle.std.specs.List.{list_all}
use Rattle.court_clock.specs.Words.{day_of_text, second_of, two_digits}

-- the second of the day at an hour below 24, and a minute and a second below 60
abbrev pub second_at : (hour minute second : Option ℕ) → Option ℕ
second_at (Some h) (Some m) (Some s) = if nat_lt h 24 && nat_lt m 60 && nat_lt s 60 then Some (3600 * h + 60 * m + s) else None
second_at _ _ _ = None

-- the instant of a second of a day of UTC
abbrev pub instant_at : (day : Option ℤ) → (second : Option ℕ) → Option ℤ
instant_at (Some day) (Some second) = Some (second_of day second)
instant_at _ _ = None

-- the instant that a text names as `YYYYMMDDTHHMMSSZ`, in UTC: of a day that a text `YYYY-MM-DD` names
unfoldable pub stamp_of_text : List ℕ → Option ℤ
stamp_of_text text =
    let b : ℕ → ℕ = λ k. slice_index text k in
    if length text == 16 && b 8 == 84 && b 15 == 90 && list_all is_ascii_digit (b 0 ∷ b 1 ∷ b 2 ∷ b 3 ∷ b 4 ∷ b 5 ∷ b 6 ∷ b 7 ∷ [])
    then instant_at (day_of_text (b 0 ∷ b 1 ∷ b 2 ∷ b 3 ∷ 45 ∷ b 4 ∷ b 5 ∷ 45 ∷ b 6 ∷ b 7 ∷ [])) (second_at (two_digits (b 9) (b 10)) (two_digits (b 11) (b 12)) (two_digits (b 13) (b 14)))
    else None
