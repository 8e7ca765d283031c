-- What is due: the deadlines that end within the chosen days, as they are shown or by another reading, those with no timely act that
-- weren't ended and whose case isn't closed, or all, and the hearings within them.
use Rattle.std.specs.Prelude.{◌≡◌, ℕ, ℤ, ◌<◌, ◌≤◌, ◌≤ℤ◌, Bool, false, ◌&&◌, ◌||◌, not, List, ◌++◌, length, filter, slice_index_or, option_map, Option, Some, None, if◌then◌else◌}
use Rattle.std.specs.List.{filter_map, flat_map}
use Rattle.std.specs.List.Sorted.{IsPermutation}
use Rattle.std.specs.Option.{option_and_then}
use Rattle.std.specs.Ordering.{int_eq}
use Rattle.court_clock.specs.Words.{ClockView}
use Rattle.docket_rows.specs.declared.sheet.Sheet.{Sheet}
use Rattle.docket_rows.specs.declared.sheet.SheetDeadline.{SheetDeadline}
use Rattle.docket_rows.specs.declared.sheet.SheetMotion.{SheetMotion}
use Rattle.docket_rows.specs.Words.{CourtSetup, Rows}
use Rattle.reason_notes.specs.Readings.Words.{DaysByReadingView, days_by_reading, other_end}
use Rattle.docket_selection.specs.declared.choice.Choice.{Choice}
use Rattle.docket_selection.specs.declared.item.DueItem.{DueItem}
use Rattle.docket_selection.specs.declared.item.Matter.{Matter}
use Rattle.docket_selection.specs.declared.item.Matter.TheVariants.{Deadline, Hearing}
use Rattle.docket_selection.specs.Choice.{are_deadlines_chosen, is_before, is_case_chosen, is_day_chosen, is_end_chosen, is_panel_chosen}
use Rattle.docket_selection.specs.Items.{deadline_item, hearing_item, is_ended, is_met, is_pending, time_of, with_other}
use Rattle.docket_selection.specs.Sheets.{open_sheets}

-- A hearing is chosen by its panel, and a deadline by its case: `before` says whether those of its case are chosen. Overdue is no hearing, and no deadline
-- of which an act is recorded.
abbrev pub is_matter_chosen : Choice → (before : Bool) → Matter → Bool
is_matter_chosen choice before (Deadline d) = before && (not choice.overdue || is_pending d.state)
is_matter_chosen choice before (Hearing h) = not choice.overdue && is_panel_chosen choice h.hearing.judges

-- the item is chosen whatever its day; no timely act is recorded, and it wasn't ended, unless such deadlines are chosen too
abbrev pub is_due_any_day : Choice → (before : Bool) → DueItem → Bool
is_due_any_day choice before item =
    is_case_chosen choice item.case && (choice.met || not (is_met item.matter || is_ended item.matter)) && is_matter_chosen choice before item.matter

-- and its day is chosen
abbrev pub is_due : Choice → (before : Bool) → DueItem → Bool
is_due choice before item = is_day_chosen choice item.day && is_due_any_day choice before item

-- the day is chosen on which the time of a deadline ends by another reading; a hearing has no other day, and nothing is overdue by
-- another reading alone
abbrev pub is_other_chosen : ClockView → Choice → Matter → Bool
is_other_chosen clock choice (Deadline d) = not choice.overdue && is_end_chosen clock choice d.other
is_other_chosen clock choice (Hearing h) = false

-- its day is chosen, or that by another reading
abbrev pub is_due_by_either : ClockView → Choice → (before : Bool) → DueItem → Bool
is_due_by_either clock choice before item =
    (is_day_chosen choice item.day || is_other_chosen clock choice item.matter) && is_due_any_day choice before item

-- the item, if there is one and it is due
abbrev pub due_only : Choice → (before : Bool) → Option DueItem → Option DueItem
due_only choice before item = option_and_then (λ (x : DueItem). if is_due choice before x then Some x else None) item

abbrev pub due_by_either : ClockView → Choice → (before : Bool) → Option DueItem → Option DueItem
due_by_either clock choice before item = option_and_then (λ (x : DueItem). if is_due_by_either clock choice before x then Some x else None) item

-- the item of a deadline, with the end by another reading, where it is due by either, and that of a motion's hearing, where it is due
abbrev pub due_deadline : DaysByReadingView → ClockView → (case : ℕ) → Choice → (before : Bool) → SheetDeadline → Option DueItem
due_deadline days clock case choice before d =
    due_by_either clock choice before (option_map (with_other (other_end days clock d.row)) (deadline_item clock case d))

abbrev pub due_hearing : (case : ℕ) → Choice → (before : Bool) → SheetMotion → Option DueItem
due_hearing case choice before m = due_only choice before (hearing_item case m)

-- what is due of the case of a sheet: its deadlines, and then its hearings, each by number
unfoldable pub due_in : DaysByReadingView → ClockView → Choice → Sheet → List DueItem
due_in days clock choice sheet =
    let before = is_before choice sheet.assigned sheet.motions in
    filter_map (due_deadline days clock sheet.case choice (are_deadlines_chosen choice sheet.closed before)) sheet.deadlines ++ filter_map (due_hearing sheet.case choice before) sheet.motions

-- what is due of all open cases, by their numbers
abbrev pub all_due : CourtSetup → Rows → (doubtful : List ℤ) → Choice → List DueItem
all_due setup docketed doubtful choice = flat_map (due_in (days_by_reading docketed.days doubtful) setup.clock choice) (open_sheets setup docketed)

-- the two have the same time
abbrev pub is_at_time_of : DueItem → DueItem → Bool
is_at_time_of x y = int_eq (time_of x) (time_of y)

-- The list has just the items, each as often; none is later than one after it; and those of one time are as they were,
-- by case, with deadlines before hearings, and by number.
pub record AreInOrder (items list : List DueItem) : Type 0 where
  pub same : IsPermutation items list
  pub by_time : (i j : ℕ) (d : DueItem) → i ≤ j → j < length list → time_of (slice_index_or list i d) ≤ℤ time_of (slice_index_or list j d)
  pub ties : (x : DueItem) → filter (is_at_time_of x) list ≡ filter (is_at_time_of x) items

-- the list of what is due, where these days are doubtful
abbrev pub IsDue : CourtSetup → Rows → (doubtful : List ℤ) → Choice → List DueItem → Type 0
IsDue setup docketed doubtful choice list = AreInOrder (all_due setup docketed doubtful choice) list
