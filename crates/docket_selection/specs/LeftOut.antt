-- The deadlines that would be due on the chosen days, by the ends that are shown, if they weren't ended and their cases weren't closed.
use Rattle.std.specs.Prelude.{ℕ, Bool, ◌&&◌, ◌||◌, not, is_some, List, Option, Some, None, if◌then◌else◌}
use Rattle.std.specs.List.{filter_map, flat_map}
use Rattle.std.specs.Option.{option_and_then}
use Rattle.court_clock.specs.Words.{ClockView}
use Rattle.docket_rows.specs.declared.sheet.Sheet.{Sheet}
use Rattle.docket_rows.specs.declared.sheet.SheetDeadline.{SheetDeadline}
use Rattle.docket_rows.specs.Words.{CourtSetup, Rows}
use Rattle.docket_selection.specs.declared.choice.Choice.{Choice}
use Rattle.docket_selection.specs.declared.item.DueItem.{DueItem}
use Rattle.docket_selection.specs.Choice.{is_before, is_case_chosen, is_day_chosen}
use Rattle.docket_selection.specs.Due.{is_matter_chosen}
use Rattle.docket_selection.specs.Items.{deadline_item, is_ended, is_met}
use Rattle.docket_selection.specs.Sheets.{open_sheets}

-- the item is chosen by its day, its case and its judge, and no timely act is recorded, but it was ended or its case is closed
abbrev pub is_left_out : Choice → (before closed : Bool) → DueItem → Bool
is_left_out choice before closed item =
    is_day_chosen choice item.day && is_case_chosen choice item.case && is_matter_chosen choice before item.matter && not (is_met item.matter) && (is_ended item.matter || closed)

-- the item of a deadline, if it is left out
abbrev pub left_out_only : Choice → (before closed : Bool) → Option DueItem → Option DueItem
left_out_only choice before closed item = option_and_then (λ (x : DueItem). if is_left_out choice before closed x then Some x else None) item

abbrev pub left_out_deadline : ClockView → (case : ℕ) → Choice → (before closed : Bool) → SheetDeadline → Option DueItem
left_out_deadline clock case choice before closed d = left_out_only choice before closed (deadline_item clock case d)

-- those of the case of a sheet
unfoldable pub left_out_in : ClockView → Choice → Sheet → List DueItem
left_out_in clock choice sheet =
    filter_map (left_out_deadline clock sheet.case choice (is_before choice sheet.assigned sheet.motions) (is_some sheet.closed)) sheet.deadlines

-- those of all open cases
abbrev pub all_left_out : CourtSetup → Rows → Choice → List DueItem
all_left_out setup docketed choice = flat_map (left_out_in setup.clock choice) (open_sheets setup docketed)
