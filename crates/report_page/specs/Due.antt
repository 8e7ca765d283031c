-- What is due, by day.
use Rattle.std.specs.Prelude.{ℕ, ℤ, List, [], ◌∷◌, ◌++◌, Option, None, codes, if◌then◌else◌}
use Rattle.court_days.specs.Words.{CourtView}
use Rattle.docket_rows.specs.declared.sheet.State.{State}
use Rattle.docket_rows.specs.declared.sheet.State.TheVariants.{Late}
use Rattle.docket_selection.specs.declared.item.DueItem.{DueItem}
use Rattle.docket_selection.specs.declared.item.Matter.{Matter}
use Rattle.docket_selection.specs.declared.item.Matter.TheVariants.{Deadline, Hearing}
use Rattle.page_markup.specs.declared.tag.Tag.{Tag}
use Rattle.page_markup.specs.declared.tag.Tag.TheVariants as tag
use Rattle.page_markup.specs.Words.{element, text_in}
use Rattle.report_texts.specs.Words.{LabelsView, called_after, closing_line, counted_in, is_day_of, matter_words, time_words, whole_day}
use Rattle.report_page.specs.Tables.{case_cell, rows_by_day, three_heads}

-- the cell of what is late, or another
abbrev pub state_cell : State → Tag
state_cell Late = tag.LateCell
state_cell state = tag.Cell

abbrev pub matter_cell : Matter → Tag
matter_cell (Deadline d) = state_cell d.state
matter_cell (Hearing h) = tag.Cell

-- when it ends or takes place, its case, and what it is, with what rows call it and its case
unfoldable pub due_row : CourtView → LabelsView → DueItem → List ℕ
due_row court labels item =
    element tag.Row (text_in tag.RowHead (time_words court.clock item.second item.matter) ++ case_cell labels.cases item.case ++ text_in (matter_cell item.matter) (matter_words court item.number item.matter ++ called_after labels item.case (counted_in item.matter) item.number))

-- a row for the day, unless it is that of the item before
abbrev pub day_row_if_new : (before : Option ℤ) → (day : ℤ) → List ℕ
day_row_if_new before day = if is_day_of before day then [] else element tag.Row (text_in tag.DayHead (whole_day day))

-- a row for each item, in the order of the list, and one for each day before the first item of it
abbrev pub due_rows : CourtView → LabelsView → (before : Option ℤ) → List DueItem → List ℕ
due_rows court labels before items = rows_by_day (λ (item : DueItem). item.day) day_row_if_new (due_row court labels) before items

unfoldable pub due_caption : List ℕ
due_caption = codes "Deadlines with no timely act, and hearings, by day"

unfoldable pub due_heads : List ℕ
due_heads = three_heads (codes "Time") (codes "Case") (codes "Deadline or hearing")

-- the table of the items, or that there are none
unfoldable pub due_table : CourtView → LabelsView → List DueItem → List ℕ
due_table court labels [] = text_in tag.Paragraph (codes "Nothing is due.")
due_table court labels (item ∷ items) =
    element tag.Table (text_in tag.Caption due_caption ++ due_heads ++ element tag.TableBody (due_rows court labels None (item ∷ items)))

-- what is due
unfoldable pub due_part : CourtView → LabelsView → List DueItem → List ℕ
due_part court labels items =
    element tag.Section (text_in tag.Heading2 (codes "What is due") ++ text_in tag.Paragraph (closing_line court) ++ due_table court labels items)
