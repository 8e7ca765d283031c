-- The lines of a judge's calendar.
use Rattle.std.specs.Prelude.{ℕ, ℤ, ◌*◌, ◌/◌, ◌%◌, ◌==◌, List, [], ◌∷◌, ◌++◌, slice_get, unwrap_or, codes, if◌then◌else◌}
use Rattle.std.specs.Fmt.{decimal}
use Rattle.std.specs.List.{flat_map}
use Rattle.court_clock.specs.Words.{day_text, minute_text}
use Rattle.court_days.specs.Words.{CourtView}
use Rattle.hearing_slots.specs.declared.booking.Booking.{Booking}

-- the name of that number; a number that the court hasn't, has no name
abbrev pub name_of : (names : List (List ℕ)) → (number : ℕ) → List ℕ
name_of names number = unwrap_or (slice_get names number) []

-- when the slot begins: slot s begins at minute 15·s of the day
abbrev pub slot_text : (first : ℕ) → List ℕ
slot_text first = minute_text (15 * first)

-- how long a hearing takes: in half hours, or, where that isn't a whole number, in quarter hours with a `q`
abbrev pub slots_text : (count : ℕ) → List ℕ
slots_text count = if count % 2 == 0 then decimal (count / 2) else decimal count ++ codes "q"

-- the day of a hearing, when it begins, and how long it takes
abbrev pub span_text : (day : ℤ) → (first count : ℕ) → List ℕ
span_text day first count = day_text day ++ codes " " ++ slot_text first ++ codes " " ++ slots_text count

-- `2025-09-15 10:30 2 case 1 motion 1 room R1`
unfoldable pub booking_line : CourtView → Booking → List ℕ
booking_line court b =
    span_text b.day b.first b.count ++ codes " case " ++ decimal b.case ++ codes " motion " ++ decimal b.motion ++ codes " room " ++ name_of court.rooms b.other ++ 10 ∷ []

abbrev pub booking_lines : CourtView → List Booking → List ℕ
booking_lines court bookings = flat_map (booking_line court) bookings

-- the line `judge NAME`, and a line for each of the judge's bookings
unfoldable pub calendar_lines : CourtView → (judge : ℕ) → List Booking → List ℕ
calendar_lines court judge bookings = codes "judge " ++ name_of court.judges judge ++ 10 ∷ booking_lines court bookings
