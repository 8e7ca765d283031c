-- Easter of the Gregorian calendar, and Good Friday.
use Rattle.std.specs.Prelude.{◌≡◌, ◌-◌, ◌+◌, ◌%◌, ℕ, ℤ, pos, ◌+ℤ◌, ◌-ℤ◌, ◌≤ℤ◌, ◌<ℤ◌, List, [], ◌∷◌, slice_index, unsigned_abs}
use Rattle.court_clock.specs.Words.{weekday_of}
use Rattle.court_holidays.specs.Dates.{on}

-- the paschal full moon in the years 1900 to 2199, as days after 21 March, by the year's place in the cycle of 19 years: the
-- first of the 19 is that of the golden number 1, 14 April, and the last that of 19, 27 March
abbrev pub full_moons : List ℕ
full_moons = 24 ∷ 13 ∷ 2 ∷ 21 ∷ 10 ∷ 28 ∷ 18 ∷ 7 ∷ 26 ∷ 15 ∷ 4 ∷ 23 ∷ 12 ∷ 1 ∷ 20 ∷ 9 ∷ 27 ∷ 17 ∷ 6 ∷ []

abbrev pub full_moon : ℤ → ℤ
full_moon year = on 3 21 year +ℤ pos (slice_index full_moons (unsigned_abs year % 19))

-- the first Sunday after a day
abbrev pub sunday_after : ℤ → ℤ
sunday_after d = d +ℤ pos (7 - (weekday_of d + 1) % 7)

-- Easter is the first Sunday after the full moon, and Good Friday two days before it
unfoldable pub easter : ℤ → ℤ
easter year = sunday_after (full_moon year)

unfoldable pub good_friday : ℤ → ℤ
good_friday year = easter year -ℤ pos 2

-- what they mean: Easter is a Sunday, at most seven days after the full moon, and Good Friday the Friday before
abbrev pub EasterIsASunday : Type 0
EasterIsASunday =
    (year : ℤ) → (weekday_of (easter year) ≡ 6) × (full_moon year <ℤ easter year) × (easter year ≤ℤ (full_moon year +ℤ pos 7)) × (weekday_of (good_friday year) ≡ 4)
