-- The weeks of a month: the load of each, its days, and a block for each hearing.
use Rattle.std.specs.Prelude.{ℕ, ◌==◌, ◌*◌, ℤ, pos, ◌+ℤ◌, Bool, ◌||◌, List, [], ◌++◌, Option, Some, None, codes, if◌then◌else◌}
use Rattle.std.specs.Fmt.{decimal}
use Rattle.std.specs.List.{flat_map, range_with_len}
use Rattle.std.specs.Ordering.{int_eq}
use Rattle.court_clock.specs.Words.{day_in_month, month_after}
use Rattle.hearing_slots.specs.declared.booking.Booking.{Booking}
use Rattle.docket_selection.specs.Words.{day_numbered, week_days, week_start}
use Rattle.page_markup.specs.declared.tag.Tag.{Tag}
use Rattle.page_markup.specs.declared.tag.Tag.TheVariants as tag
use Rattle.page_markup.specs.Words.{element, escaped}
use Rattle.report_texts.specs.Words.{LabelsView, span_words}
use Rattle.report_page.specs.Load.{load_head, week_load}
use Rattle.report_page.specs.Phrases.{motion_name}
use Rattle.report_page.specs.Tables.{case_link}

-- the two days are of one month
abbrev pub is_month_of : (x y : ℤ) → Bool
is_month_of x y = int_eq (month_after 0 x) (month_after 0 y)

-- what takes place, and when: `10:00-11:00 case 1, motion 2`
unfoldable pub block : LabelsView → Booking → List ℕ
block labels b = element tag.Block (escaped (span_words b.first b.count ++ codes " ") ++ case_link labels.cases b.case ++ escaped (motion_name b.motion))

-- the same if it is on the day
unfoldable pub block_if_on : LabelsView → (day : ℤ) → Booking → List ℕ
block_if_on labels day b = if int_eq b.day day then block labels b else []

-- a day of the month, or of the one before or after it
abbrev pub date_tag : (of_month : Bool) → Tag
date_tag of_month = if of_month then tag.DateCell else tag.OutCell

-- the number of the day, and a block for each hearing on it
unfoldable pub day_cell : LabelsView → List Booking → (first day : ℤ) → List ℕ
day_cell labels bookings first day =
    element (date_tag (is_month_of first day)) (escaped (decimal (day_in_month day)) ++ flat_map (block_if_on labels day) bookings)

-- the week of a day: its load, and its days
unfoldable pub week_row : LabelsView → List Booking → (first day : ℤ) → List ℕ
week_row labels bookings first day = element tag.Row (load_head (week_load day bookings) ++ flat_map (day_cell labels bookings first) (week_days day))

-- The week that is so many after the one in which the month begins, if its Monday is a day of the month. The first has a day of it
-- anyway.
abbrev pub week_on : LabelsView → List Booking → (first : ℤ) → (week : ℕ) → Option ℤ → List ℕ
week_on labels bookings first week None = []
week_on labels bookings first week (Some day) = if week == 0 || is_month_of first (week_start day) then week_row labels bookings first day else []

unfoldable pub week_if_in : LabelsView → List Booking → (first : ℤ) → (week : ℕ) → List ℕ
week_if_in labels bookings first week = week_on labels bookings first week (day_numbered (first +ℤ pos (7 * week)))

-- a number of weeks, from one on
unfoldable pub month_weeks : LabelsView → List Booking → (first : ℤ) → (from count : ℕ) → List ℕ
month_weeks labels bookings first from count = flat_map (week_if_in labels bookings first) (range_with_len from count)
