-- The whole page.
use Rattle.std.specs.Prelude.{ℕ, List, ◌++◌, codes}
use Rattle.case_numbers.specs.declared.names.NamedCase.{NamedCase}
use Rattle.court_days.specs.Words.{CourtView, DaysView}
use Rattle.docket_selection.specs.declared.calendars.JudgeCalendar.{JudgeCalendar}
use Rattle.docket_selection.specs.declared.choice.Choice.{Choice}
use Rattle.docket_selection.specs.declared.item.DueItem.{DueItem}
use Rattle.page_markup.specs.declared.tag.Tag.TheVariants as tag
use Rattle.page_markup.specs.Words.{IsMarkup, page_with, text_in}
use Rattle.report_texts.specs.Words.{LabelsView, chosen_words}
use Rattle.docket_selection.specs.declared.explained.explained.ExplainedSheet.{ExplainedSheet}
use Rattle.report_page.specs.Cases.{cases_part}
use Rattle.report_page.specs.Due.{due_part}
use Rattle.report_page.specs.Judges.{judges_part}

-- `Court calendar, Mon 2025-09-15 to Fri 2025-09-19, judge Ames`
unfoldable pub title : CourtView → List NamedCase → Choice → List ℕ
title court named choice = codes "Court calendar, " ++ chosen_words court named choice

-- what the page shows: what was chosen, what is due, the judges' hearings and the cases
unfoldable pub content : CourtView → DaysView → LabelsView → Choice → List DueItem → List JudgeCalendar → List ExplainedSheet → List ℕ
content court days labels choice items calendars sheets =
    text_in tag.Heading1 (codes "Court calendar") ++ text_in tag.Paragraph (chosen_words court labels.cases choice) ++ due_part court labels items ++ judges_part court labels calendars ++ cases_part court days labels sheets

-- the page
unfoldable pub page_text : CourtView → DaysView → LabelsView → Choice → List DueItem → List JudgeCalendar → List ExplainedSheet → List ℕ
page_text court days labels choice items calendars sheets = page_with (title court labels.cases choice) (content court days labels choice items calendars sheets)

-- what a page shows is made of elements and escaped texts alone, whatever the names in the court's file are and whatever rows call
-- cases, deadlines and motions
abbrev pub ContentIsMarkup : Type 0
ContentIsMarkup = (court : CourtView) (days : DaysView) (labels : LabelsView) (choice : Choice) (items : List DueItem) (calendars : List JudgeCalendar) (sheets : List ExplainedSheet) → IsMarkup (content court days labels choice items calendars sheets)
