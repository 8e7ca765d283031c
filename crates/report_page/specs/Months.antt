-- The months of a judge, each as a grid of weeks.
use Rattle.std.specs.Prelude.{ℕ, ℤ, pos, ◌+ℤ◌, ◌-ℤ◌, int_le, int_lt, Bool, false, ◌&&◌, List, [], ◌++◌, Option, Some, None, codes, filter, if◌then◌else◌}
use Rattle.std.specs.Option.{option_map_or}
use Rattle.court_clock.specs.Words.{day_in_month}
use Rattle.court_days.specs.Words.{CourtView}
use Rattle.hearing_slots.specs.declared.booking.Booking.{Booking}
use Rattle.docket_selection.specs.declared.calendars.JudgeCalendar.{JudgeCalendar}
use Rattle.docket_selection.specs.Words.{day_numbered, week_start}
use Rattle.office_texts.specs.Words.{name_of}
use Rattle.page_markup.specs.declared.tag.Tag.TheVariants as tag
use Rattle.page_markup.specs.Words.{element, text_in}
use Rattle.report_texts.specs.Words.{LabelsView, whole_day}
use Rattle.report_page.specs.Tables.{rows_by_day}
use Rattle.report_page.specs.Weeks.{is_month_of, month_weeks}

-- the first day of a day's month, if it is a day
abbrev pub first_of_month : (day : ℤ) → Option ℤ
first_of_month day = day_numbered (day -ℤ pos (day_in_month day) +ℤ pos 1)

unfoldable pub front_heads : List ℕ
front_heads = text_in tag.ColumnHead (codes "Load") ++ text_in tag.ColumnHead (codes "Mon") ++ text_in tag.ColumnHead (codes "Tue") ++ text_in tag.ColumnHead (codes "Wed")

unfoldable pub back_heads : List ℕ
back_heads = text_in tag.ColumnHead (codes "Thu") ++ text_in tag.ColumnHead (codes "Fri") ++ text_in tag.ColumnHead (codes "Sat") ++ text_in tag.ColumnHead (codes "Sun")

unfoldable pub month_heads : List ℕ
month_heads = element tag.TableHead (element tag.Row (front_heads ++ back_heads))

unfoldable pub caption_back : List ℕ
caption_back = codes "; 100% is a load of 40 hours"

-- `Judge Ames, month of Mon 2025-09-01; 100% is a load of 40 hours`
unfoldable pub month_caption : CourtView → (judge : ℕ) → (first : ℤ) → List ℕ
month_caption court judge first = codes "Judge " ++ name_of court.judges judge ++ codes ", month of " ++ whole_day first ++ caption_back

-- the grid of the month that begins on a day, with these bookings
unfoldable pub month_table : CourtView → LabelsView → (judge : ℕ) → List Booking → (first : ℤ) → List ℕ
month_table court labels judge bookings first =
    element tag.Grid (text_in tag.Caption (month_caption court judge first) ++ month_heads ++ element tag.TableBody (month_weeks labels bookings first 0 6))

-- the booking is in the six weeks from that on in which the month begins
abbrev pub is_near : (first : ℤ) → Booking → Bool
is_near first b = int_le (week_start first) b.day && int_lt b.day (week_start first +ℤ pos 42)

-- the grid of a month, with those of the bookings that are near it; a month whose first day is no day has none
abbrev pub month_at : CourtView → LabelsView → (judge : ℕ) → List Booking → Option ℤ → List ℕ
month_at court labels judge bookings None = []
month_at court labels judge bookings (Some first) = month_table court labels judge (filter (is_near first) bookings) first

abbrev pub month_of_day : CourtView → LabelsView → (judge : ℕ) → List Booking → (day : ℤ) → List ℕ
month_of_day court labels judge bookings day = month_at court labels judge bookings (first_of_month day)

-- the month of a day, unless it is that of the booking before
abbrev pub is_month_before : (before : Option ℤ) → (day : ℤ) → Bool
is_month_before before day = option_map_or (λ b. is_month_of b day) before false

abbrev pub month_if_new : CourtView → LabelsView → JudgeCalendar → (before : Option ℤ) → (day : ℤ) → List ℕ
month_if_new court labels c before day = if is_month_before before day then [] else month_of_day court labels c.judge c.bookings day

-- a booking has no more than its month
abbrev pub no_row : Booking → List ℕ
no_row b = []

-- a grid for each month in which the judge has a booking, in the order of the months
abbrev pub months_part : CourtView → LabelsView → JudgeCalendar → List Booking → List ℕ
months_part court labels c bookings = rows_by_day (λ (b : Booking). b.day) (month_if_new court labels c) no_row None bookings
