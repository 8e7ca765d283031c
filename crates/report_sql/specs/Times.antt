-- Days, times of day and instants, as values that databases take as such.
use Rattle.std.specs.Prelude.{ℕ, ◌*◌, ℤ, List, ◌++◌, codes, if◌then◌else◌}
use Rattle.court_clock.specs.Words.{ClockView, day_text, is_day_number}
use Rattle.content_lines.specs.Words.{utc_day, utc_second}
use Rattle.reason_texts.specs.Words.{second_time}
use Rattle.report_ics.specs.Words.{slot_begins}
use Rattle.report_sql.specs.Rows.{SqlValue, null, or_null, text}

-- `'2025-09-16'`
abbrev pub day_value : (day : ℤ) → SqlValue
day_value day = text (day_text day)

-- `'15:00:00'`, of a second of the day counted from midnight
abbrev pub second_value : (second : ℕ) → SqlValue
second_value second = text (second_time second)

-- the same of a minute of the day
abbrev pub minute_value : (minute : ℕ) → SqlValue
minute_value minute = second_value (60 * minute)

-- `2025-09-16 19:00:00+00:00`: a second of a day of UTC
unfoldable pub utc_words : (day : ℤ) → (second : ℕ) → List ℕ
utc_words day second = day_text day ++ codes " " ++ second_time second ++ codes "+00:00"

-- an instant, in UTC. The days that a court's file covers and those beside them are days, so one that is shown has a text.
unfoldable pub instant_value : (instant : ℤ) → SqlValue
instant_value instant =
    if is_day_number (utc_day instant) then text (utc_words (utc_day instant) (utc_second instant)) else null

-- when a slot of a day begins, by the court's clock
abbrev pub slot_value : ClockView → (day : ℤ) → (slot : ℕ) → SqlValue
slot_value clock day slot = or_null instant_value (slot_begins clock day slot)
