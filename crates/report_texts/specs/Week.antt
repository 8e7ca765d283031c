-- A judge's week: a grid of its days, and a line for each hearing.
use Rattle.std.specs.Prelude.{ℕ, List, [], ◌∷◌, ◌++◌, codes}
use Rattle.std.specs.Fmt.{decimal}
use Rattle.std.specs.List.{flat_map}
use Rattle.case_numbers.specs.Words.{case_text}
use Rattle.court_days.specs.Words.{CourtView}
use Rattle.docket_rows.specs.declared.command.Counted.TheVariants.{Motion}
use Rattle.hearing_slots.specs.declared.booking.Booking.{Booking}
use Rattle.docket_selection.specs.declared.bookings.DayBookings.{DayBookings}
use Rattle.office_texts.specs.Words.{name_of}
use Rattle.report_texts.specs.Days.{whole_day}
use Rattle.report_texts.specs.Grid.{grid}
use Rattle.report_texts.specs.Called.{called_beneath}
use Rattle.report_texts.specs.Items.{room_words, span_words}
use Rattle.report_texts.specs.Labels.{LabelsView}

abbrev pub week_of_words : List DayBookings → List ℕ
week_of_words [] = []
week_of_words (first ∷ days) = codes ", week of " ++ whole_day first.day

-- `Judge Ames, week of Mon 2025-09-15`, and an empty line
unfoldable pub title : CourtView → (judge : ℕ) → List DayBookings → List ℕ
title court judge week = codes "Judge " ++ name_of court.judges judge ++ week_of_words week ++ codes "\n\n"

-- `  case 1 motion 1, room 11A`
unfoldable pub booked_words : CourtView → LabelsView → Booking → List ℕ
booked_words court labels b = codes "  case " ++ case_text labels.cases b.case ++ codes " motion " ++ decimal b.motion ++ room_words court b.other ++ 10 ∷ []

-- `Tue 2025-09-16  10:00-11:00  case 1 motion 1, room 11A`
unfoldable pub booked_line : CourtView → LabelsView → Booking → List ℕ
booked_line court labels b =
    whole_day b.day ++ codes "  " ++ span_words b.first b.count ++ booked_words court labels b

-- the line of a booking, and beneath it what rows call the motion and its case
unfoldable pub booked_lines : CourtView → LabelsView → Booking → List ℕ
booked_lines court labels b = booked_line court labels b ++ called_beneath labels b.case Motion b.motion

-- the lines of each hearing of a day
abbrev pub day_lines : CourtView → LabelsView → DayBookings → List ℕ
day_lines court labels day = flat_map (booked_lines court labels) day.bookings

-- the judge and the week, the grid, and the lines of each hearing, in order; in the grid, where a name has no room, each case has
-- its number
unfoldable pub week_text : CourtView → LabelsView → (judge : ℕ) → List DayBookings → List ℕ
week_text court labels judge week = title court judge week ++ grid court.clock week ++ codes "\n" ++ flat_map (day_lines court labels) week
