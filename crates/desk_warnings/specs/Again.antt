-- A deadline that its case has already: one that is pending, of the same period with the same events.
use Rattle.std.specs.Prelude.{ℕ, ◌==◌, ℤ, Bool, true, false, ◌&&◌, List, [], ◌++◌, Option, Some, None, codes, if◌then◌else◌}
use Rattle.std.specs.Fmt.{decimal}
use Rattle.std.specs.List.{flat_map}
use Rattle.std.specs.Ordering.{int_eq}
use Rattle.std.specs.Str.{bytes_eq}
use Rattle.rule_periods.specs.declared.period.Period.{Period}
use Rattle.rule_periods.specs.Words.{DeadlineRowView}
use Rattle.docket_rows.specs.declared.command.Counted.TheVariants.{Deadline}
use Rattle.docket_rows.specs.declared.fact.Ending.{Ending}
use Rattle.docket_rows.specs.declared.sheet.SheetDeadline.{SheetDeadline}
use Rattle.docket_rows.specs.declared.sheet.State.{State}
use Rattle.docket_rows.specs.declared.sheet.State.TheVariants.{Pending}
use Rattle.reason_notes.specs.Warnings.Words.{note}
use Rattle.office_texts.specs.Words.{period_text}
use Rattle.desk_numbers.specs.declared.moved.Moved.{Moved}
use Rattle.desk_numbers.specs.Words.{number_in}

-- no act is recorded of a deadline, and it wasn't ended
abbrev pub pending_as : State → Option Ending → Bool
pending_as Pending None = true
pending_as state ended = false

abbrev pub is_pending : SheetDeadline → Bool
is_pending d = pending_as d.state d.ended

-- neither has a second event, or both have one on one day
abbrev pub same_second : (second other : Option ℤ) → Bool
same_second None None = true
same_second None (Some day) = false
same_second (Some second) None = false
same_second (Some second) (Some day) = int_eq second day

-- the events of both are at one time
abbrev pub same_events : DeadlineRowView → (other : DeadlineRowView) → Bool
same_events row other = int_eq row.event.day other.event.day && (row.event.minute == other.event.minute) && same_second row.second other.second

-- the periods of both are written alike
abbrev pub same_period : Period → (other : Period) → Bool
same_period period other = bytes_eq (period_text period) (period_text other)

abbrev pub is_same : DeadlineRowView → (other : DeadlineRowView) → Bool
is_same row other = same_events row other && same_period row.period other.period

-- `deadline 3 of the case is the same and pending`
abbrev pub same_words : (number : ℕ) → List ℕ
same_words number = codes "deadline " ++ decimal number ++ codes " of the case is the same and pending"

abbrev pub note_if_same : (same : Bool) → (event : ℤ) → (number : ℕ) → List ℕ
note_if_same same event number = if same then note (Some event) (same_words number) else []

-- on a deadline that would start in a case, for one that the case has
abbrev pub same_note : List Moved → (case : ℕ) → DeadlineRowView → (other : SheetDeadline) → List ℕ
same_note moved case row other = note_if_same (is_pending other && is_same row other.row) row.event.day (number_in moved case Deadline other.number)

-- for each that it has
abbrev pub same_notes : List Moved → (case : ℕ) → DeadlineRowView → (others : List SheetDeadline) → List ℕ
same_notes moved case row others = flat_map (same_note moved case row) others
