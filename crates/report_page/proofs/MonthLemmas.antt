-- The months of a judge are made of elements and escaped texts alone.
use Rattle.std.proofs.Common.{ℕ, ℤ, Bool, true, false, List, [], ◌∷◌, Option, Some, None}
use Rattle.std.specs.Prelude.{if◌then◌else◌}
use Rattle.case_numbers.specs.declared.names.NamedCase.{NamedCase}
use Rattle.court_days.specs.Words.{CourtView}
use Rattle.docket_selection.specs.declared.calendars.JudgeCalendar.{JudgeCalendar}
use Rattle.hearing_slots.specs.declared.booking.Booking.{Booking}
use Rattle.page_markup.specs.declared.tag.Tag.TheVariants as tag
use Rattle.page_markup.specs.Words.{IsMarkup}
use Rattle.page_markup.specs.Elements.IsMarkup.{nothing, text}
use Rattle.page_markup.proofs.CallerLemmas.{both, each, within, words}
use Rattle.report_texts.specs.Words.{LabelsView}
use Rattle.report_page.specs.Load.{load_head}
use Rattle.report_page.specs.Months.{back_heads, first_of_month, front_heads, is_month_before, month_at, month_heads, month_if_new, month_table, months_part, no_row}
use Rattle.report_page.specs.Tables.{case_link, rows_by_day}
use Rattle.report_page.specs.Weeks.{block, block_if_on, day_cell, month_weeks, week_if_in, week_on, week_row}
use Rattle.std.specs.List.{range_with_len}

pub rows_are : {X : Type 0} (day_of : X → ℤ) (head : Option ℤ → ℤ → List ℕ) (row : X → List ℕ) → ((before : Option ℤ) (day : ℤ) → IsMarkup (head before day)) → ((x : X) → IsMarkup (row x)) → (before : Option ℤ) (xs : List X) → IsMarkup (rows_by_day day_of head row before xs)
unfolding rows_by_day
rows_are day_of head row heads rows before [] = nothing
rows_are day_of head row heads rows before (x ∷ xs) = both (both (heads before (day_of x)) (rows x)) (rows_are day_of head row heads rows (Some (day_of x)) xs)

pub case_link_is : (named : List NamedCase) (case : ℕ) → IsMarkup (case_link named case)
unfolding case_link
case_link_is named case = words (tag.CaseLink case) _

-- what a test leaves out, or not
either_is : (test : Bool) {written : List ℕ} → IsMarkup written → IsMarkup (if test then written else [])
either_is true is = is
either_is false is = nothing

neither_is : (test : Bool) {written : List ℕ} → IsMarkup written → IsMarkup (if test then [] else written)
neither_is true is = nothing
neither_is false is = is

block_is : (labels : LabelsView) (b : Booking) → IsMarkup (block labels b)
unfolding block
block_is labels b = within tag.Block (both (both (text _) (case_link_is labels.cases b.case)) (text _))

block_if_on_is : (labels : LabelsView) (day : ℤ) (b : Booking) → IsMarkup (block_if_on labels day b)
unfolding block_if_on
block_if_on_is labels day b = either_is _ (block_is labels b)

day_cell_is : (labels : LabelsView) (bookings : List Booking) (first day : ℤ) → IsMarkup (day_cell labels bookings first day)
unfolding day_cell
day_cell_is labels bookings first day = within _ (both (text _) (each (block_if_on labels day) (block_if_on_is labels day) bookings))

load_head_is : (quarters : ℕ) → IsMarkup (load_head quarters)
unfolding load_head
load_head_is quarters = within tag.LoadHead (both (words tag.Line _) (words _ _))

week_row_is : (labels : LabelsView) (bookings : List Booking) (first day : ℤ) → IsMarkup (week_row labels bookings first day)
unfolding week_row
week_row_is labels bookings first day = within tag.Row (both (load_head_is _) (each (day_cell labels bookings first) (day_cell_is labels bookings first) _))

week_on_is : (labels : LabelsView) (bookings : List Booking) (first : ℤ) (week : ℕ) (day : Option ℤ) → IsMarkup (week_on labels bookings first week day)
week_on_is labels bookings first week None = nothing
week_on_is labels bookings first week (Some day) = either_is _ (week_row_is labels bookings first day)

week_if_in_is : (labels : LabelsView) (bookings : List Booking) (first : ℤ) (week : ℕ) → IsMarkup (week_if_in labels bookings first week)
unfolding week_if_in
week_if_in_is labels bookings first week = week_on_is labels bookings first week _

month_weeks_are : (labels : LabelsView) (bookings : List Booking) (first : ℤ) (from count : ℕ) → IsMarkup (month_weeks labels bookings first from count)
unfolding month_weeks
month_weeks_are labels bookings first from count = each (week_if_in labels bookings first) (week_if_in_is labels bookings first) (range_with_len from count)

front_heads_are : IsMarkup front_heads
unfolding front_heads
front_heads_are = both (both (both (words tag.ColumnHead _) (words tag.ColumnHead _)) (words tag.ColumnHead _)) (words tag.ColumnHead _)

back_heads_are : IsMarkup back_heads
unfolding back_heads
back_heads_are = both (both (both (words tag.ColumnHead _) (words tag.ColumnHead _)) (words tag.ColumnHead _)) (words tag.ColumnHead _)

month_heads_are : IsMarkup month_heads
unfolding month_heads
month_heads_are = within tag.TableHead (within tag.Row (both front_heads_are back_heads_are))

month_table_is : (court : CourtView) (labels : LabelsView) (judge : ℕ) (bookings : List Booking) (first : ℤ) → IsMarkup (month_table court labels judge bookings first)
unfolding month_table
month_table_is court labels judge bookings first =
    within tag.Grid (both (both (words tag.Caption _) month_heads_are) (within tag.TableBody (month_weeks_are labels bookings first 0 6)))

month_at_is : (court : CourtView) (labels : LabelsView) (judge : ℕ) (bookings : List Booking) (first : Option ℤ) → IsMarkup (month_at court labels judge bookings first)
month_at_is court labels judge bookings None = nothing
month_at_is court labels judge bookings (Some first) = month_table_is court labels judge _ first

month_if_new_is : (court : CourtView) (labels : LabelsView) (c : JudgeCalendar) (before : Option ℤ) (day : ℤ) → IsMarkup (month_if_new court labels c before day)
month_if_new_is court labels c before day = neither_is (is_month_before before day) (month_at_is court labels c.judge c.bookings (first_of_month day))

no_row_is : (b : Booking) → IsMarkup (no_row b)
no_row_is b = nothing

pub months_are : (court : CourtView) (labels : LabelsView) (c : JudgeCalendar) (bookings : List Booking) → IsMarkup (months_part court labels c bookings)
months_are court labels c bookings = rows_are (λ (b : Booking). b.day) (month_if_new court labels c) no_row (month_if_new_is court labels c) no_row_is None bookings
