-- Each part of a page is made of elements and escaped texts alone.
use Rattle.std.proofs.Common.{ℕ, ℤ, Bool, true, false, List, [], ◌∷◌, Option, Some, None}
use Rattle.std.specs.Prelude.{if◌then◌else◌}
use Rattle.case_numbers.specs.declared.names.NamedCase.{NamedCase}
use Rattle.court_clock.specs.Words.{ClockView}
use Rattle.court_days.specs.Words.{CourtView, DaysView}
use Rattle.reason_notes.specs.Readings.Words.{DaysByReadingView, days_by_reading}
use Rattle.rule6.specs.declared.timeliness.Shown.{Shown}
use Rattle.hearing_slots.specs.declared.booking.Booking.{Booking}
use Rattle.rule_periods.specs.Words.{DeadlineRowView}
use Rattle.docket_rows.specs.declared.fact.DatedRuling.{DatedRuling}
use Rattle.docket_rows.specs.declared.sheet.SheetDeadline.{SheetDeadline}
use Rattle.docket_rows.specs.declared.sheet.SheetHearing.{SheetHearing}
use Rattle.docket_rows.specs.declared.sheet.SheetMotion.{SheetMotion}
use Rattle.docket_selection.specs.declared.calendars.JudgeCalendar.{JudgeCalendar}
use Rattle.docket_selection.specs.declared.item.DueItem.{DueItem}
use Rattle.page_markup.specs.declared.tag.Tag.{Tag}
use Rattle.page_markup.specs.declared.tag.Tag.TheVariants as tag
use Rattle.page_markup.specs.Words.{IsMarkup, element, text_in}
use Rattle.page_markup.specs.Elements.IsMarkup.{nothing, text}
use Rattle.page_markup.proofs.CallerLemmas.{both, each, within, words}
use Rattle.report_texts.specs.Words.{LabelsView, is_day_of, whole_day}
use Rattle.docket_selection.specs.declared.explained.explained.ExplainedDeadline.{ExplainedDeadline}
use Rattle.docket_selection.specs.declared.explained.explained.ExplainedSheet.{ExplainedSheet}
use Rattle.report_page.specs.Cases.{case_part, case_parts, cases_part, deadline_heads, deadline_row, deadline_rows, deadline_table, end_cell, hearing_cell, motion_heads, motion_row, motion_table, period_cell, reasons_cell, served_cell}
use Rattle.report_page.specs.Due.{day_row_if_new, due_heads, due_part, due_row, due_table}
use Rattle.report_page.specs.Judges.{booking_heads, booking_row, is_week_of, judge_part, judge_parts, judges_part, week_name, week_row_if_new}
use Rattle.report_page.specs.Page.{ContentIsMarkup, content}
use Rattle.report_page.specs.Tables.{case_cell, four_heads, motion_cell, three_heads}
use Rattle.report_page.proofs.MonthLemmas.{case_link_is, months_are, rows_are}

-- nothing, or a row
row_unless : (test : Bool) (t : Tag) (written : List ℕ) → IsMarkup (if test then [] else element tag.Row (text_in t written))
row_unless true t written = nothing
row_unless false t written = within tag.Row (words t written)

pub three_heads_are : (a b c : List ℕ) → IsMarkup (three_heads a b c)
unfolding three_heads
three_heads_are a b c = within tag.TableHead (within tag.Row (both (both (words tag.ColumnHead a) (words tag.ColumnHead b)) (words tag.ColumnHead c)))

four_heads_are : (a b c d : List ℕ) → IsMarkup (four_heads a b c d)
unfolding four_heads
four_heads_are a b c d =
    within tag.TableHead (within tag.Row (both (both (both (words tag.ColumnHead a) (words tag.ColumnHead b)) (words tag.ColumnHead c)) (words tag.ColumnHead d)))

case_cell_is : (named : List NamedCase) (case : ℕ) → IsMarkup (case_cell named case)
unfolding case_cell
case_cell_is named case = within tag.Cell (case_link_is named case)

motion_cell_is : (labels : LabelsView) (case motion : ℕ) → IsMarkup (motion_cell labels case motion)
unfolding motion_cell
motion_cell_is labels case motion = within tag.Cell (both (case_link_is labels.cases case) (text _))

due_row_is : (court : CourtView) (labels : LabelsView) (item : DueItem) → IsMarkup (due_row court labels item)
unfolding due_row
due_row_is court labels item = within tag.Row (both (both (words tag.RowHead _) (case_cell_is labels.cases item.case)) (words _ _))

due_heads_are : IsMarkup due_heads
unfolding due_heads
due_heads_are = three_heads_are _ _ _

due_table_is : (court : CourtView) (labels : LabelsView) (items : List DueItem) → IsMarkup (due_table court labels items)
unfolding due_table
due_table_is court labels [] = words tag.Paragraph _
due_table_is court labels (item ∷ items) = within tag.Table (both (both (words tag.Caption _) due_heads_are) (within tag.TableBody (rows_are (λ (x : DueItem). x.day) day_row_if_new (due_row court labels) (λ before day. row_unless (is_day_of before day) tag.DayHead (whole_day day)) (due_row_is court labels) None (item ∷ items))))

due_part_is : (court : CourtView) (labels : LabelsView) (items : List DueItem) → IsMarkup (due_part court labels items)
unfolding due_part
due_part_is court labels items = within tag.Section (both (both (words tag.Heading2 _) (words tag.Paragraph _)) (due_table_is court labels items))

booking_row_is : (court : CourtView) (labels : LabelsView) (b : Booking) → IsMarkup (booking_row court labels b)
unfolding booking_row
booking_row_is court labels b = within tag.Row (both (both (both (words tag.RowHead _) (words tag.Cell _)) (motion_cell_is labels b.case b.motion)) (words tag.Cell _))

booking_heads_are : IsMarkup booking_heads
unfolding booking_heads
booking_heads_are = four_heads_are _ _ _ _

judge_part_is : (court : CourtView) (labels : LabelsView) (c : JudgeCalendar) → IsMarkup (judge_part court labels c)
unfolding judge_part
judge_part_is court labels c =
    within tag.Section (both (both (words tag.Heading3 _) (months_are court labels c c.bookings)) (within tag.Table (both (both (words tag.Caption _) booking_heads_are) (within tag.TableBody (rows_are (λ (b : Booking). b.day) week_row_if_new (booking_row court labels) (λ before day. row_unless (is_week_of before day) tag.WeekHead (week_name day)) (booking_row_is court labels) None c.bookings)))))

judge_parts_are : (court : CourtView) (labels : LabelsView) (calendars : List JudgeCalendar) → IsMarkup (judge_parts court labels calendars)
judge_parts_are court labels [] = words tag.Paragraph _
judge_parts_are court labels (c ∷ calendars) = each (judge_part court labels) (judge_part_is court labels) (c ∷ calendars)

judges_part_is : (court : CourtView) (labels : LabelsView) (calendars : List JudgeCalendar) → IsMarkup (judges_part court labels calendars)
unfolding judges_part
judges_part_is court labels calendars = within tag.Section (both (words tag.Heading2 _) (judge_parts_are court labels calendars))

period_cell_is : (row : DeadlineRowView) → IsMarkup (period_cell row)
unfolding period_cell
period_cell_is row = within tag.Cell (both (words tag.Line _) (words tag.Note _))

end_cell_is : (clock : ClockView) (shown : Shown) (other : Option Shown) → IsMarkup (end_cell clock shown other)
unfolding end_cell
end_cell_is clock shown None = words tag.Cell _
end_cell_is clock shown (Some other) = within tag.Cell (both (words tag.Line _) (words tag.Note _))

deadline_row_is : (clock : ClockView) (labels : LabelsView) (case : ℕ) (d : SheetDeadline) (other : Option Shown) → IsMarkup (deadline_row clock labels case d other)
unfolding deadline_row
deadline_row_is clock labels case d other =
    within tag.Row (both (both (both (words tag.RowHead _) (period_cell_is d.row)) (end_cell_is clock d.shown other)) (words _ _))

reasons_cell_is : (days : DaysByReadingView) (clock : ClockView) (e : ExplainedDeadline) → IsMarkup (reasons_cell days clock e)
unfolding reasons_cell
reasons_cell_is days clock e = within tag.WideCell (within tag.Details (both (words tag.Summary _) (words tag.Reasons _)))

deadline_rows_are : (days : DaysByReadingView) (clock : ClockView) (labels : LabelsView) (case : ℕ) (e : ExplainedDeadline) → IsMarkup (deadline_rows days clock labels case e)
unfolding deadline_rows
deadline_rows_are days clock labels case e = both (deadline_row_is clock labels case e.deadline e.other) (within tag.Row (reasons_cell_is days clock e))

deadline_heads_are : IsMarkup deadline_heads
unfolding deadline_heads
deadline_heads_are = four_heads_are _ _ _ _

deadline_table_is : (days : DaysByReadingView) (clock : ClockView) (labels : LabelsView) (case : ℕ) (deadlines : List ExplainedDeadline) → IsMarkup (deadline_table days clock labels case deadlines)
unfolding deadline_table
deadline_table_is days clock labels case [] = words tag.Paragraph _
deadline_table_is days clock labels case (e ∷ deadlines) =
    within tag.Table (both (both (words tag.Caption _) deadline_heads_are) (within tag.TableBody (each (deadline_rows days clock labels case) (deadline_rows_are days clock labels case) (e ∷ deadlines))))

hearing_cell_is : (court : CourtView) (hearing : Option SheetHearing) → IsMarkup (hearing_cell court hearing)
unfolding hearing_cell
hearing_cell_is court None = words tag.Cell _
hearing_cell_is court (Some h) = within tag.Cell (both (both (both (words tag.Line _) (words tag.Line _)) (words tag.Line _)) (words tag.Line _))

served_cell_is : (served : ℤ) (ruling : Option DatedRuling) → IsMarkup (served_cell served ruling)
unfolding served_cell
served_cell_is served None = words tag.Cell _
served_cell_is served (Some r) = within tag.Cell (both (words tag.Line _) (words tag.Line _))

motion_row_is : (court : CourtView) (labels : LabelsView) (case : ℕ) (m : SheetMotion) → IsMarkup (motion_row court labels case m)
unfolding motion_row
motion_row_is court labels case m = within tag.Row (both (both (both (words tag.RowHead _) (served_cell_is m.served m.ruling)) (words tag.Cell _)) (hearing_cell_is court m.hearing))

motion_heads_are : IsMarkup motion_heads
unfolding motion_heads
motion_heads_are = four_heads_are _ _ _ _

motion_table_is : (court : CourtView) (labels : LabelsView) (case : ℕ) (motions : List SheetMotion) → IsMarkup (motion_table court labels case motions)
unfolding motion_table
motion_table_is court labels case [] = words tag.Paragraph _
motion_table_is court labels case (m ∷ motions) =
    within tag.Table (both (both (words tag.Caption _) motion_heads_are) (within tag.TableBody (each (motion_row court labels case) (motion_row_is court labels case) (m ∷ motions))))

case_part_is : (court : CourtView) (days : DaysByReadingView) (labels : LabelsView) (s : ExplainedSheet) → IsMarkup (case_part court days labels s)
unfolding case_part
case_part_is court days labels s =
    within (tag.CaseSection s.case) (both (both (both (words tag.Heading3 _) (words tag.Paragraph _)) (deadline_table_is days court.clock labels s.case s.deadlines.items)) (motion_table_is court labels s.case s.motions))

case_parts_are : (court : CourtView) (days : DaysByReadingView) (labels : LabelsView) (sheets : List ExplainedSheet) → IsMarkup (case_parts court days labels sheets)
case_parts_are court days labels [] = words tag.Paragraph _
case_parts_are court days labels (s ∷ sheets) = each (case_part court days labels) (case_part_is court days labels) (s ∷ sheets)

cases_part_is : (court : CourtView) (days : DaysView) (labels : LabelsView) (sheets : List ExplainedSheet) → IsMarkup (cases_part court days labels sheets)
unfolding cases_part
cases_part_is court days labels sheets = within tag.Section (both (words tag.Heading2 _) (case_parts_are court (days_by_reading days labels.doubtful) labels sheets))

pub content_is_markup : ContentIsMarkup
unfolding content
content_is_markup court days labels choice items calendars sheets =
    both (both (both (both (words tag.Heading1 _) (words tag.Paragraph _)) (due_part_is court labels items)) (judges_part_is court labels calendars)) (cases_part_is court days labels sheets)
