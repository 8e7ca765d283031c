-- The page of what has been pending for long is made of elements and escaped texts alone.
use Rattle.std.proofs.Common.{List, [], ◌∷◌}
use Rattle.court_days.specs.Words.{CourtView}
use Rattle.docket_selection.specs.declared.pending.PendingItem.{PendingItem}
use Rattle.docket_selection.specs.declared.pending.PendingKind.{PendingKind}
use Rattle.docket_selection.specs.declared.pending.PendingKind.TheVariants.{Cases, Motions}
use Rattle.page_markup.specs.declared.tag.Tag.TheVariants as tag
use Rattle.page_markup.specs.Words.{IsMarkup}
use Rattle.page_markup.proofs.CallerLemmas.{both, each, within, words}
use Rattle.report_texts.specs.Words.{LabelsView}
use Rattle.report_page.specs.Pending.{PendingIsMarkup, pending_content, pending_heads, pending_row, pending_section, pending_table}
use Rattle.report_page.proofs.MarkupLemmas.{three_heads_are}

pending_row_is : (court : CourtView) (labels : LabelsView) (item : PendingItem) → IsMarkup (pending_row court labels item)
unfolding pending_row
pending_row_is court labels item = within tag.Row (both (both (words tag.RowHead _) (words tag.Cell _)) (words tag.Cell _))

pending_heads_are : IsMarkup pending_heads
unfolding pending_heads
pending_heads_are = three_heads_are _ _ _

pending_table_is : (court : CourtView) (labels : LabelsView) (kind : PendingKind) (items : List PendingItem) → IsMarkup (pending_table court labels kind items)
unfolding pending_table
pending_table_is court labels kind [] = words tag.Paragraph _
pending_table_is court labels kind (item ∷ items) =
    within tag.Grid (both (both (words tag.Caption _) pending_heads_are) (within tag.TableBody (each (pending_row court labels) (pending_row_is court labels) (item ∷ items))))

pending_section_is : (court : CourtView) (labels : LabelsView) (kind : PendingKind) (items : List PendingItem) → IsMarkup (pending_section court labels kind items)
unfolding pending_section
pending_section_is court labels kind items = within tag.Section (both (words tag.Heading2 _) (pending_table_is court labels kind items))

pub pending_is_markup : PendingIsMarkup
unfolding pending_content
pending_is_markup court labels day motions cases =
    both (both (words tag.Heading1 _) (pending_section_is court labels Motions motions)) (pending_section_is court labels Cases cases)
