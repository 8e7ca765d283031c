-- The instants at which hearings begin and end.
use Rattle.std.specs.Prelude.{ℕ, ◌*◌, ◌/◌, ◌%◌, ℤ, pos, ◌+ℤ◌, List, [], Option, Some, None, if◌then◌else◌}
use Rattle.court_clock.specs.Words.{ClockView, instant_of, is_day_number}
use Rattle.content_lines.specs.Words.{utc_text}

-- The instant at which a slot of a day begins, by the court's clock: slot s begins at minute 15·s, which is second 900·s, and
-- slot 96 is the first of the next day. Past the last of all days there is none.
unfoldable pub slot_begins : ClockView → (day : ℤ) → (slot : ℕ) → Option ℤ
slot_begins clock day slot =
    let on = day +ℤ pos (slot / 96) in
    if is_day_number on then Some (instant_of clock.zone on (900 * (slot % 96))) else None

-- the text of an instant, if there is one
abbrev pub utc_if_any : Option ℤ → List ℕ
utc_if_any (Some instant) = utc_text instant
utc_if_any None = []
