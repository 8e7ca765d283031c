-- The sheet of each case: its deadlines and its motions.
use Rattle.std.specs.Prelude.{ℕ, ℤ, List, [], ◌∷◌, ◌++◌, Option, Some, None, codes}
use Rattle.std.specs.Fmt.{decimal}
use Rattle.std.specs.List.{flat_map}
use Rattle.case_numbers.specs.Words.{case_text}
use Rattle.case_numbers.specs.declared.names.NamedCase.{NamedCase}
use Rattle.court_clock.specs.Words.{ClockView}
use Rattle.court_days.specs.Words.{CourtView, DaysView}
use Rattle.rule6.specs.declared.timeliness.Shown.{Shown}
use Rattle.rule_periods.specs.Words.{DeadlineRowView}
use Rattle.docket_rows.specs.declared.command.Counted.TheVariants.{Deadline, Motion}
use Rattle.docket_rows.specs.declared.fact.Assignment.{Assignment}
use Rattle.docket_rows.specs.declared.fact.Closure.{Closure}
use Rattle.docket_rows.specs.declared.fact.DatedRuling.{DatedRuling}
use Rattle.docket_rows.specs.declared.sheet.SheetDeadline.{SheetDeadline}
use Rattle.docket_rows.specs.declared.sheet.SheetHearing.{SheetHearing}
use Rattle.docket_rows.specs.declared.sheet.SheetMotion.{SheetMotion}
use Rattle.docket_rows.specs.Words.{closing_word}
use Rattle.deadline_reasons.specs.declared.reason.Reason.{Reason}
use Rattle.reason_texts.specs.Words.{course_of, reason_lines}
use Rattle.reason_texts.specs.Periods.Words.{heading_lines}
use Rattle.reason_notes.specs.Readings.Words.{DaysByReadingView, days_by_reading, reading_lines}
use Rattle.office_texts.specs.Words.{assigned_text}
use Rattle.page_markup.specs.declared.tag.Tag.TheVariants as tag
use Rattle.page_markup.specs.Words.{element, text_in}
use Rattle.report_texts.specs.Words.{LabelsView, label_after, period_words, reading_words, title_after, whole_day}
use Rattle.docket_selection.specs.declared.explained.explained.ExplainedDeadline.{ExplainedDeadline}
use Rattle.docket_selection.specs.declared.explained.explained.ExplainedSheet.{ExplainedSheet}
use Rattle.report_page.specs.Due.{state_cell}
use Rattle.report_page.specs.Phrases.{affidavits_words, ends_words, hearing_place, hearing_time, need_words, notice_words, ruling_words, state_words}
use Rattle.report_page.specs.Tables.{four_heads}

-- the period of a deadline, and in words what it is for, which section sets it, and from which day and event it runs
unfoldable pub period_cell : DeadlineRowView → List ℕ
period_cell row = element tag.Cell (text_in tag.Line (period_words row.period) ++ text_in tag.Note (heading_lines row))

-- when the time of a deadline ends, and below it the end by another reading, if there is one
unfoldable pub end_cell : ClockView → Shown → Option Shown → List ℕ
end_cell clock shown None = text_in tag.Cell (ends_words clock shown)
end_cell clock shown (Some other) = element tag.Cell (text_in tag.Line (ends_words clock shown) ++ text_in tag.Note (reading_words clock other))

-- the number of a deadline of a case and what rows call it, its period, when its time ends, also by another reading, and whether it
-- was met
unfoldable pub deadline_row : ClockView → LabelsView → (case : ℕ) → SheetDeadline → (other : Option Shown) → List ℕ
deadline_row clock labels case d other =
    element tag.Row (text_in tag.RowHead (decimal d.number ++ label_after labels case Deadline d.number) ++ period_cell d.row ++ end_cell clock d.shown other ++ text_in (state_cell d.state) (state_words d.state d.row.filed d.ended))

-- `Reasons of deadline 3`
unfoldable pub reasons_title : (number : ℕ) → List ℕ
reasons_title number = codes "Reasons of deadline " ++ decimal number

-- a line for each reason, and for each other reading that gives another end; a holiday is named as the law of the United
-- States names it
unfoldable pub reasons_text : DaysByReadingView → ClockView → DeadlineRowView → List Reason → List ℕ
reasons_text days clock row reasons = reason_lines clock [] (course_of row.period) reasons ++ reading_lines days clock row

-- a cell over the whole table, with the reasons of a deadline folded in it
unfoldable pub reasons_cell : DaysByReadingView → ClockView → ExplainedDeadline → List ℕ
reasons_cell days clock e =
    element tag.WideCell (element tag.Details (text_in tag.Summary (reasons_title e.deadline.number) ++ text_in tag.Reasons (reasons_text days clock e.deadline.row e.reasons.items)))

-- the row of a deadline, and below it the row of its reasons
unfoldable pub deadline_rows : DaysByReadingView → ClockView → LabelsView → (case : ℕ) → ExplainedDeadline → List ℕ
deadline_rows days clock labels case e = deadline_row clock labels case e.deadline e.other ++ element tag.Row (reasons_cell days clock e)

unfoldable pub deadline_heads : List ℕ
deadline_heads = four_heads (codes "No.") (codes "Period") (codes "Time ends") (codes "State")

-- `Deadlines of case 3`
unfoldable pub deadline_caption : List NamedCase → (case : ℕ) → List ℕ
deadline_caption named case = codes "Deadlines of case " ++ case_text named case

-- two rows for each deadline, or that there are none
unfoldable pub deadline_table : DaysByReadingView → ClockView → LabelsView → (case : ℕ) → List ExplainedDeadline → List ℕ
deadline_table days clock labels case [] = text_in tag.Paragraph (codes "No deadline is entered.")
deadline_table days clock labels case (e ∷ deadlines) =
    element tag.Table (text_in tag.Caption (deadline_caption labels.cases case) ++ deadline_heads ++ element tag.TableBody (flat_map (deadline_rows days clock labels case) (e ∷ deadlines)))

-- the hearing of a motion, or that none is set
unfoldable pub hearing_cell : CourtView → Option SheetHearing → List ℕ
hearing_cell court None = text_in tag.Cell (codes "not set")
hearing_cell court (Some h) =
    element tag.Cell (text_in tag.Line (hearing_time h.hearing) ++ text_in tag.Line (hearing_place court h.hearing) ++ text_in tag.Line (notice_words h.hearing.notice) ++ text_in tag.Line (affidavits_words h.affidavits))

-- when a motion was served, and below it how it was ruled on, if it was
unfoldable pub served_cell : (served : ℤ) → Option DatedRuling → List ℕ
served_cell served None = text_in tag.Cell (whole_day served)
served_cell served (Some r) = element tag.Cell (text_in tag.Line (whole_day served) ++ text_in tag.Line (ruling_words r))

-- the number of a motion of a case and what rows call it, when it was served and how it was ruled on, the notice that it needs, and its
-- hearing
unfoldable pub motion_row : CourtView → LabelsView → (case : ℕ) → SheetMotion → List ℕ
motion_row court labels case m =
    element tag.Row (text_in tag.RowHead (decimal m.number ++ label_after labels case Motion m.number) ++ served_cell m.served m.ruling ++ text_in tag.Cell (need_words m.need) ++ hearing_cell court m.hearing)

unfoldable pub motion_heads : List ℕ
motion_heads = four_heads (codes "No.") (codes "Served") (codes "Notice") (codes "Hearing")

-- `Motions of case 3`
unfoldable pub motion_caption : List NamedCase → (case : ℕ) → List ℕ
motion_caption named case = codes "Motions of case " ++ case_text named case

-- a row for each motion, or that there are none
unfoldable pub motion_table : CourtView → LabelsView → (case : ℕ) → List SheetMotion → List ℕ
motion_table court labels case [] = text_in tag.Paragraph (codes "No motion is entered.")
motion_table court labels case (m ∷ motions) =
    element tag.Table (text_in tag.Caption (motion_caption labels.cases case) ++ motion_heads ++ element tag.TableBody (flat_map (motion_row court labels case) (m ∷ motions)))

-- `Case 3 (Doe v. Acme)`; a case that has a name is called by it, and then by what rows call it
unfoldable pub case_title : LabelsView → (case : ℕ) → List ℕ
case_title labels case = codes "Case " ++ case_text labels.cases case ++ title_after labels case

-- `, assigned Mon 2025-09-15 to Ames, referred to Cole`, if the case is assigned
abbrev pub assigned_words : (names : List (List ℕ)) → Option Assignment → List ℕ
assigned_words names None = []
assigned_words names (Some a) = codes ", assigned " ++ whole_day a.dated ++ codes " to " ++ assigned_text names a

-- `, closed Mon 2025-11-03 settled`, if the case is closed
abbrev pub closed_words : Option Closure → List ℕ
closed_words None = []
closed_words (Some c) = codes ", closed " ++ whole_day c.dated ++ codes " " ++ closing_word c.why

-- `Filed Mon 2025-03-03`
unfoldable pub filed_words : (names : List (List ℕ)) → (filed : ℤ) → Option Assignment → Option Closure → List ℕ
filed_words names filed assigned closed = codes "Filed " ++ whole_day filed ++ assigned_words names assigned ++ closed_words closed

-- the sheet of a case
unfoldable pub case_part : CourtView → DaysByReadingView → LabelsView → ExplainedSheet → List ℕ
case_part court days labels s =
    element (tag.CaseSection s.case) (text_in tag.Heading3 (case_title labels s.case) ++ text_in tag.Paragraph (filed_words court.judges s.filed s.assigned s.closed) ++ deadline_table days court.clock labels s.case s.deadlines.items ++ motion_table court labels s.case s.motions)

-- a part for each case, or that there is none
abbrev pub case_parts : CourtView → DaysByReadingView → LabelsView → List ExplainedSheet → List ℕ
case_parts court days labels [] = text_in tag.Paragraph (codes "No case is open.")
case_parts court days labels (s ∷ sheets) = flat_map (case_part court days labels) (s ∷ sheets)

-- the sheets of the cases
unfoldable pub cases_part : CourtView → DaysView → LabelsView → List ExplainedSheet → List ℕ
cases_part court days labels sheets = element tag.Section (text_in tag.Heading2 (codes "Cases") ++ case_parts court (days_by_reading days labels.doubtful) labels sheets)
