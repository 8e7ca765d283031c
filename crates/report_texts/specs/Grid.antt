-- The grid of a judge's week: its days side by side, and a row for each quarter of an hour.
use Rattle.std.specs.Prelude.{ℕ, ◌+◌, ◌-◌, ◌*◌, ◌/◌, ◌%◌, ◌==◌, nat_le, nat_lt, Bool, ◌&&◌, List, [], ◌++◌, length, find, replicate, Option, Some, None, codes, if◌then◌else◌}
use Rattle.std.specs.Fmt.{decimal}
use Rattle.std.specs.List.{flat_map, range_with_len}
use Rattle.court_clock.specs.Words.{ClockView}
use Rattle.hearing_slots.specs.declared.booking.Booking.{Booking}
use Rattle.docket_selection.specs.declared.bookings.DayBookings.{DayBookings}
use Rattle.report_texts.specs.Days.{short_day}
use Rattle.reason_texts.specs.Words.{minute_time}

-- the booking takes the slot, and the one of some that does
abbrev pub is_taken_at : (slot : ℕ) → Booking → Bool
is_taken_at slot b = nat_le b.first slot && nat_lt slot (b.first + b.count)

abbrev pub taken_at : (slot : ℕ) → List Booking → Option Booking
taken_at slot bookings = find (is_taken_at slot) bookings

-- the case and the motion in the first slot that a booking takes, and a mark in the others
abbrev pub cell_words : (slot : ℕ) → Option Booking → List ℕ
cell_words slot (Some b) = if b.first == slot then decimal b.case ++ codes "/" ++ decimal b.motion else codes " :"
cell_words slot None = []

-- a text and spaces after it, 9 characters wide unless the text is wider
abbrev pub padded : List ℕ → List ℕ
padded text = text ++ replicate (9 - length text) 32

-- what the bookings of a day have at a slot
unfoldable pub cell : (slot : ℕ) → List Booking → List ℕ
cell slot bookings = codes "|" ++ padded (cell_words slot (taken_at slot bookings))

abbrev pub day_cell : (slot : ℕ) → DayBookings → List ℕ
day_cell slot day = cell slot day.bookings

-- the time of a half hour, or as many spaces: slot s begins at minute 15·s of the day
abbrev pub label : (slot : ℕ) → List ℕ
label slot = if slot % 2 == 0 then minute_time (15 * slot) else codes "     "

-- the row of a slot
unfoldable pub slot_row : List DayBookings → (slot : ℕ) → List ℕ
slot_row week slot = label slot ++ flat_map (day_cell slot) week ++ codes "|\n"

-- the half hours in which the clerk's office opens and closes: their first slot, and that after their last
abbrev pub first_row : ClockView → ℕ
first_row clock = clock.opens / 30 * 2

abbrev pub end_row : ClockView → ℕ
end_row clock = (clock.closes + 29) / 30 * 2

-- the line of the days, and the one below seven of them
abbrev pub day_name_cell : DayBookings → List ℕ
day_name_cell day = codes "|" ++ short_day day.day

unfoldable pub header : List DayBookings → List ℕ
header week = codes "     " ++ flat_map day_name_cell week ++ codes "|\n"

unfoldable pub rule : List ℕ
rule = codes "-----+---------+---------+---------+---------+---------+---------+---------+\n"

-- the whole grid
unfoldable pub grid : ClockView → List DayBookings → List ℕ
grid clock week = header week ++ rule ++ flat_map (slot_row week) (range_with_len (first_row clock) (end_row clock - first_row clock))
