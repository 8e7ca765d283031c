-- The page of what has been pending for long on a day, by judge.
use Rattle.std.specs.Prelude.{ℕ, ℤ, List, [], ◌∷◌, ◌++◌, Option, Some, None, codes}
use Rattle.std.specs.List.{flat_map}
use Rattle.court_days.specs.Words.{CourtView}
use Rattle.docket_rows.specs.declared.command.Counted.TheVariants.{Motion}
use Rattle.docket_selection.specs.declared.pending.PendingItem.{PendingItem}
use Rattle.docket_selection.specs.declared.pending.PendingKind.{PendingKind}
use Rattle.docket_selection.specs.declared.pending.PendingKind.TheVariants.{Cases, Motions}
use Rattle.page_markup.specs.declared.tag.Tag.TheVariants as tag
use Rattle.page_markup.specs.Words.{IsMarkup, element, page_with, text_in}
use Rattle.report_texts.specs.Words.{LabelsView, called_after, holder_words, kind_words, pending_count, pending_title, title_after, whole_day}
use Rattle.report_page.specs.Phrases.{case_name, motion_name}
use Rattle.report_page.specs.Tables.{three_heads}

-- a case, and the motion where it is one, with what rows call it: `case 3, motion 1 (Doe v. Acme: to compel)`
abbrev pub pending_name : LabelsView → (case : ℕ) → (motion : Option ℕ) → List ℕ
pending_name labels case (Some motion) = case_name labels.cases case ++ motion_name motion ++ called_after labels case Motion motion
pending_name labels case None = case_name labels.cases case ++ title_after labels case

-- who has the case, what it is, and since when it is pending
unfoldable pub pending_row : CourtView → LabelsView → PendingItem → List ℕ
pending_row court labels item =
    element tag.Row (text_in tag.RowHead (holder_words court item.judge) ++ text_in tag.Cell (pending_name labels item.case item.motion) ++ text_in tag.Cell (whole_day item.since))

unfoldable pub pending_heads : List ℕ
pending_heads = three_heads (codes "Judge") (codes "Case") (codes "Since")

-- the table of the items, or that there are none
unfoldable pub pending_table : CourtView → LabelsView → PendingKind → List PendingItem → List ℕ
pending_table court labels kind [] = text_in tag.Paragraph (codes "None.")
pending_table court labels kind (item ∷ items) =
    element tag.Grid (text_in tag.Caption (kind_words kind) ++ pending_heads ++ element tag.TableBody (flat_map (pending_row court labels) (item ∷ items)))

-- how many there are, and their table
unfoldable pub pending_section : CourtView → LabelsView → PendingKind → List PendingItem → List ℕ
pending_section court labels kind items = element tag.Section (text_in tag.Heading2 (pending_count kind items) ++ pending_table court labels kind items)

-- what the page shows: the day, then the motions and then the cases
unfoldable pub pending_content : CourtView → LabelsView → (day : ℤ) → (motions cases : List PendingItem) → List ℕ
pending_content court labels day motions cases =
    text_in tag.Heading1 (pending_title day) ++ pending_section court labels Motions motions ++ pending_section court labels Cases cases

-- the page
unfoldable pub pending_page : CourtView → LabelsView → (day : ℤ) → (motions cases : List PendingItem) → List ℕ
pending_page court labels day motions cases = page_with (pending_title day) (pending_content court labels day motions cases)

-- what it shows is made of elements and escaped texts alone, whatever the names in the court's file are and whatever rows call cases
-- and motions
abbrev pub PendingIsMarkup : Type 0
PendingIsMarkup = (court : CourtView) (labels : LabelsView) (day : ℤ) (motions cases : List PendingItem) → IsMarkup (pending_content court labels day motions cases)
