-- Days and instants, as texts of ISO 8601.
use Rattle.std.specs.Prelude.{ℕ, ◌+◌, ◌*◌, ◌/◌, ◌%◌, ◌==◌, ℤ, pos, ◌+ℤ◌, int_le, unsigned_abs, List, [], ◌∷◌, ◌++◌, codes, if◌then◌else◌}
use Rattle.json.specs.Json.{Json, null, string}
use Rattle.jiff_tz.specs.declared.timezone.TimeZone.{TimeZone}
use Rattle.court_clock.specs.Words.{CivilTime, civil_of, day_text, instant_of, is_day_number, offset_seconds}
use Rattle.reason_texts.specs.Words.{minute_time, second_time}
use Rattle.report_json.specs.Values.{Field, amount, field, or_null}

-- `2025-09-02`
abbrev pub day_value : (day : ℤ) → Json
day_value day = string (day_text day)

-- `09:30`, of a minute of the day counted from midnight
abbrev pub minute_value : (minute : ℕ) → Json
minute_value minute = string (minute_time minute)

-- `2025-09-16T15:00:00`, of a second of the day counted from midnight
unfoldable pub civil_words : CivilTime → List ℕ
civil_words at = day_text at.day ++ 84 ∷ [] ++ second_time at.second

-- ahead of UTC, or behind it
abbrev pub sign_of : (offset : ℤ) → ℕ
sign_of offset = if int_le (pos 0) offset then 43 else 45

-- `04:00`, with seconds where it has some
abbrev pub offset_time : (seconds : ℕ) → List ℕ
offset_time seconds = if seconds % 60 == 0 then minute_time (seconds / 60) else second_time seconds

-- `-04:00`, of seconds ahead of UTC
unfoldable pub offset_words : (offset : ℤ) → List ℕ
offset_words offset = sign_of offset ∷ [] ++ offset_time (unsigned_abs offset)

-- `2025-09-16T15:00:00-04:00`: what the clock shows at an instant, and how far it is ahead of UTC then. The days that a
-- court's file covers and those beside them are days, so an instant that is shown has one.
unfoldable pub instant_value : TimeZone → ℤ → Json
instant_value zone t = or_null (λ at. string (civil_words at ++ offset_words (offset_seconds zone t))) (civil_of zone t)

-- a second of a day, as the court's clock shows it: one that the clock jumps over is shown as much later
abbrev pub moment_value : TimeZone → (day : ℤ) → (second : ℕ) → Json
moment_value zone day second = instant_value zone (instant_of zone day second)

-- when a slot of a day begins: slot s begins at minute 15·s, and slot 96 is the first of the next day
unfoldable pub slot_value : TimeZone → (day : ℤ) → (slot : ℕ) → Json
slot_value zone day slot =
    if is_day_number (day +ℤ pos (slot / 96)) then moment_value zone (day +ℤ pos (slot / 96)) (900 * (slot % 96)) else null

-- the day and the minute at which something happened, as they are docketed, and the instant of that minute
abbrev pub happened_fields : TimeZone → (day : ℤ) → (minute : ℕ) → List Field
happened_fields zone day minute =
    field (codes "day") (day_value day)
    ∷ field (codes "time") (minute_value minute)
    ∷ field (codes "at") (moment_value zone day (60 * minute))
    ∷ []

-- the span of a hearing, as it is docketed, and the instants at which it begins and ends: slot s begins at minute 15·s of
-- the day
unfoldable pub span_fields : TimeZone → (day : ℤ) → (first count : ℕ) → List Field
span_fields zone day first count =
    field (codes "day") (day_value day)
    ∷ field (codes "time") (minute_value (15 * first))
    ∷ field (codes "minutes") (amount (15 * count))
    ∷ field (codes "start") (slot_value zone day first)
    ∷ field (codes "end") (slot_value zone day (first + count))
    ∷ []
