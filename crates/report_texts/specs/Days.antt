-- Days, with the day of the week.
use Rattle.std.specs.Prelude.{ℕ, ◌==◌, ℤ, List, ◌++◌, drop, encode_utf8, codes, if◌then◌else◌}
use Rattle.std.specs.List.{flat_map}
use Rattle.court_clock.specs.Words.{day_text, weekday_of}

-- weekdays are counted from 0 for Monday
abbrev pub weekday_name : ℕ → List ℕ
weekday_name n =
    if n == 0 then codes "Mon"
    else if n == 1 then codes "Tue"
    else if n == 2 then codes "Wed"
    else if n == 3 then codes "Thu"
    else if n == 4 then codes "Fri"
    else if n == 5 then codes "Sat"
    else codes "Sun"

-- `Tue 2025-09-02`
unfoldable pub whole_day : ℤ → List ℕ
whole_day day = weekday_name (weekday_of day) ++ codes " " ++ day_text day

-- `09-02`: the characters of the date from the sixth on, each of which is one byte
abbrev pub month_day : ℤ → List ℕ
month_day day = flat_map encode_utf8 (drop 5 (day_text day))

-- `Tue 09-02`
unfoldable pub short_day : ℤ → List ℕ
short_day day = weekday_name (weekday_of day) ++ codes " " ++ month_day day
