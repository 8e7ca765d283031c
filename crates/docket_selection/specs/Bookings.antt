-- The bookings of a judge, day by day.
use Rattle.std.specs.Prelude.{ℕ, ℤ, pos, ◌+ℤ◌, ◌-ℤ◌, List, [], Option, Some, None, option_to_list, unwrap_or, if◌then◌else◌}
use Rattle.std.specs.List.{flat_map, range_with_len}
use Rattle.court_clock.specs.Words.{is_day_number, weekday_of}
use Rattle.hearing_slots.specs.declared.booking.Booking.{Booking}
use Rattle.docket_rows.specs.declared.query.Query.TheVariants as query
use Rattle.docket_rows.specs.declared.view.View.{View}
use Rattle.docket_rows.specs.declared.view.View.TheVariants as view
use Rattle.docket_rows.specs.Words.{CourtSetup, Rows, view_of}
use Rattle.docket_selection.specs.declared.bookings.DayBookings.{DayBookings}

-- the bookings that a view shows
abbrev pub bookings_seen : View → List Booking
bookings_seen (view.Bookings bookings) = bookings
bookings_seen other = []

-- a day with the bookings of the judge on it, as the query shows them
abbrev pub day_bookings : CourtSetup → Rows → (judge : ℕ) → (day : ℤ) → DayBookings
day_bookings setup docketed judge day = record { day = day; bookings = bookings_seen (view_of setup docketed (query.JudgeDay judge day)) }

-- the Monday on which the day's week begins
abbrev pub monday_of : (day : ℤ) → ℤ
monday_of day = day -ℤ pos (weekday_of day)

-- the day of that number, if it is one
abbrev pub day_numbered : (number : ℤ) → Option ℤ
day_numbered number = if is_day_number number then Some number else None

-- the day of its week by its place after Monday, if it is a day
abbrev pub day_of_week : (day : ℤ) → (place : ℕ) → Option ℤ
day_of_week day place = day_numbered (monday_of day +ℤ pos place)

-- a number of days of its week, from a place after Monday on
unfoldable pub days_of_week : (day : ℤ) → (first count : ℕ) → List ℤ
days_of_week day first count = flat_map (λ place. option_to_list (day_of_week day place)) (range_with_len first count)

-- the seven days of its week, from Monday on
abbrev pub week_days : (day : ℤ) → List ℤ
week_days day = days_of_week day 0 7

-- the Monday of its week, or the day itself where that Monday is no day
abbrev pub week_start : (day : ℤ) → ℤ
week_start day = unwrap_or (day_of_week day 0) day
