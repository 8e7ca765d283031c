-- The hearings of each judge, by week.
use Rattle.std.specs.Prelude.{ℕ, ℤ, Bool, false, List, [], ◌∷◌, ◌++◌, Option, None, codes, if◌then◌else◌}
use Rattle.std.specs.List.{flat_map}
use Rattle.std.specs.Option.{option_map_or}
use Rattle.std.specs.Ordering.{int_eq}
use Rattle.court_days.specs.Words.{CourtView}
use Rattle.hearing_slots.specs.declared.booking.Booking.{Booking}
use Rattle.docket_selection.specs.declared.calendars.JudgeCalendar.{JudgeCalendar}
use Rattle.docket_selection.specs.Words.{week_start}
use Rattle.page_markup.specs.declared.tag.Tag.TheVariants as tag
use Rattle.page_markup.specs.Words.{element, text_in}
use Rattle.office_texts.specs.Words.{name_of}
use Rattle.report_texts.specs.Words.{LabelsView, span_words, whole_day}
use Rattle.report_page.specs.Months.{months_part}
use Rattle.report_page.specs.Tables.{four_heads, motion_cell, rows_by_day}

-- the two days are of one week
abbrev pub is_week_of : (before : Option ℤ) → (day : ℤ) → Bool
is_week_of before day = option_map_or (λ b. int_eq (week_start b) (week_start day)) before false

-- `Week of Mon 2025-09-15`
unfoldable pub week_name : (day : ℤ) → List ℕ
week_name day = codes "Week of " ++ whole_day (week_start day)

-- a row for the week, unless it is that of the booking before
abbrev pub week_row_if_new : (before : Option ℤ) → (day : ℤ) → List ℕ
week_row_if_new before day = if is_week_of before day then [] else element tag.Row (text_in tag.WeekHead (week_name day))

-- the day of a booking, its time, what is heard, and where
unfoldable pub booking_row : CourtView → LabelsView → Booking → List ℕ
booking_row court labels b =
    element tag.Row (text_in tag.RowHead (whole_day b.day) ++ text_in tag.Cell (span_words b.first b.count) ++ motion_cell labels b.case b.motion ++ text_in tag.Cell (name_of court.rooms b.other))

-- a row for each booking, in the order of the list, and one for each week before the first booking of it
abbrev pub booking_rows : CourtView → LabelsView → (before : Option ℤ) → List Booking → List ℕ
booking_rows court labels before bookings = rows_by_day (λ (b : Booking). b.day) week_row_if_new (booking_row court labels) before bookings

unfoldable pub booking_heads : List ℕ
booking_heads = four_heads (codes "Day") (codes "Time") (codes "Hearing") (codes "Room")

-- `Judge Ames`
unfoldable pub judge_title : CourtView → (judge : ℕ) → List ℕ
judge_title court judge = codes "Judge " ++ name_of court.judges judge

-- `Hearings of judge Ames, by week`
unfoldable pub judge_caption : CourtView → (judge : ℕ) → List ℕ
judge_caption court judge = codes "Hearings of judge " ++ name_of court.judges judge ++ codes ", by week"

-- the months of a judge, and the hearings
unfoldable pub judge_part : CourtView → LabelsView → JudgeCalendar → List ℕ
judge_part court labels c =
    element tag.Section (text_in tag.Heading3 (judge_title court c.judge) ++ months_part court labels c c.bookings ++ element tag.Table (text_in tag.Caption (judge_caption court c.judge) ++ booking_heads ++ element tag.TableBody (booking_rows court labels None c.bookings)))

-- a part for each judge, or that there is none
abbrev pub judge_parts : CourtView → LabelsView → List JudgeCalendar → List ℕ
judge_parts court labels [] = text_in tag.Paragraph (codes "No hearing is set.")
judge_parts court labels (c ∷ calendars) = flat_map (judge_part court labels) (c ∷ calendars)

-- the judges' hearings
unfoldable pub judges_part : CourtView → LabelsView → List JudgeCalendar → List ℕ
judges_part court labels calendars = element tag.Section (text_in tag.Heading2 (codes "Hearings by judge") ++ judge_parts court labels calendars)
