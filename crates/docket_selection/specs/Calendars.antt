-- The chosen judges, with the chosen ones of their bookings.
use Rattle.std.specs.Prelude.{ℕ, nat_lt, Bool, ◌&&◌, ◌||◌, List, [], ◌∷◌, Option, Some, None, filter, if◌then◌else◌}
use Rattle.std.specs.List.{flat_map, range_with_len}
use Rattle.hearing_slots.specs.declared.booking.Booking.{Booking}
use Rattle.docket_rows.specs.declared.sheet.Sheet.{Sheet}
use Rattle.docket_rows.specs.Words.{CourtSetup, Rows, judge_calendar}
use Rattle.docket_selection.specs.declared.calendars.JudgeCalendar.{JudgeCalendar}
use Rattle.docket_selection.specs.declared.choice.Choice.{Choice}
use Rattle.docket_selection.specs.Choice.{has_hearing, is_before, is_case_chosen, is_day_chosen}
use Rattle.docket_selection.specs.Sheets.{open_sheets}

-- its day and its case are chosen
abbrev pub is_booking_chosen : Choice → Booking → Bool
is_booking_chosen choice b = is_day_chosen choice b.day && is_case_chosen choice b.case

-- those of a judge's bookings that are chosen, by day and first slot; a judge whom the court hasn't has none
abbrev pub chosen_bookings : CourtSetup → Rows → Choice → (judge : ℕ) → List Booking
chosen_bookings setup docketed choice judge =
    if nat_lt judge setup.judges then filter (is_booking_chosen choice) (judge_calendar docketed judge) else []

-- the judge with some bookings, if there are any
abbrev pub calendar_with : (judge : ℕ) → List Booking → List JudgeCalendar
calendar_with judge [] = []
calendar_with judge (b ∷ bookings) = record { judge = judge; bookings = b ∷ bookings } ∷ []

abbrev pub calendar_chosen : CourtSetup → Rows → Choice → (judge : ℕ) → List JudgeCalendar
calendar_chosen setup docketed choice judge = calendar_with judge (chosen_bookings setup docketed choice judge)

-- the calendars of a number of judges, from a first number on
unfoldable pub calendars_from : CourtSetup → Rows → Choice → (first count : ℕ) → List JudgeCalendar
calendars_from setup docketed choice first count = flat_map (calendar_chosen setup docketed choice) (range_with_len first count)

-- the calendar of that judge, or of each judge, by their numbers
abbrev pub calendars_by : CourtSetup → Rows → Choice → Option ℕ → List JudgeCalendar
calendars_by setup docketed choice (Some judge) = calendar_chosen setup docketed choice judge
calendars_by setup docketed choice None = calendars_from setup docketed choice 0 setup.judges

-- the calendars of the chosen judges, as far as they have a booking that is chosen
abbrev pub chosen_calendars : CourtSetup → Rows → Choice → List JudgeCalendar
chosen_calendars setup docketed choice = calendars_by setup docketed choice choice.judge

-- its case is chosen, and is before the chosen judge or has a hearing before that judge
abbrev pub is_sheet_chosen : Choice → Sheet → Bool
is_sheet_chosen choice sheet =
    is_case_chosen choice sheet.case && (is_before choice sheet.assigned sheet.motions || has_hearing choice sheet.motions)

-- the sheets of the chosen cases, by their numbers
abbrev pub chosen_sheets : CourtSetup → Rows → Choice → List Sheet
chosen_sheets setup docketed choice = filter (is_sheet_chosen choice) (open_sheets setup docketed)
