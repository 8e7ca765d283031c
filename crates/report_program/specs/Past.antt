-- What a calendar program needs to know beside the rows that count, so that it never goes back to what it showed before: what the
-- struck rows had done, and those that are refused now, what rows gave, and when rows were struck or another court's file was taken.
use Rattle.std.specs.Prelude.{ℕ, ◌+◌, List, [], ◌∷◌, ◌++◌, Option, Some, None, nat_le, if◌then◌else◌}
use Rattle.std.specs.List.{filter_map, flat_map}
use Rattle.docket_rows.specs.declared.answer.Answer.TheVariants.{Booked}
use Rattle.docket_selection.specs.declared.changes.change.Change.{Change}
use Rattle.docket_selection.specs.declared.changes.change.Change.TheVariants.{Days, Deadline, Hearing, Judges}
use Rattle.docket_selection.specs.declared.changes.change.RowChange.{RowChange}
use Rattle.docket_selection.specs.declared.item.DueItem.{DueItem}
use Rattle.docket_selection.specs.Changes.Words.{change_made}
use Rattle.row_forms.specs.declared.numbered.NumberedRow.{NumberedRow}
use Rattle.row_forms.specs.declared.row.Work.{Work}
use Rattle.row_forms.specs.declared.row.Work.TheVariants.{Command, Query}
use Rattle.desk_numbers.specs.declared.given.Given.{Given}
use Rattle.report_program.specs.Lost.{lost_by}

-- the rows that are struck, those that were done once and are refused now, by row what it gave, how many rows there were when one was
-- struck or another court's file was taken last, and how often that was done
pub record PastView : Type 0 where
  pub struck : List NumberedRow
  pub refused : List NumberedRow
  pub given : List (Option Given)
  pub rows_before : ℕ
  pub corrections : ℕ

-- of an input, in which nothing is struck
abbrev pub no_past : PastView
no_past = record { struck = []; refused = []; given = []; rows_before = 0; corrections = 0 }

-- what a row asked for that is undone by now, as if it had been done
abbrev pub change_asked : (number : ℕ) → Work → Option RowChange
change_asked number (Command command) = change_made number command Booked
change_asked number (Query query) = None

-- a hearing that was changed by it is off since
abbrev pub undone : (number : ℕ) → Change → List RowChange
undone number Days = []
undone number (Deadline case) = []
undone number (Judges case to referred) = []
undone number (Hearing h) = record { row = number; change = Hearing (record h { hearing = None }) } ∷ []

abbrev pub and_undone : Option RowChange → List RowChange
and_undone None = []
and_undone (Some c) = c ∷ undone c.row c.change

abbrev pub undone_change : NumberedRow → List RowChange
undone_change n = and_undone (change_asked n.number n.row.work)

-- All that, and then a change of the court's days by the last row before the last correction: what rests on any row may have changed.
abbrev pub changes_since : PastView → List RowChange
changes_since past = flat_map undone_change past.struck ++ flat_map undone_change past.refused ++ record { row = past.rows_before; change = Days } ∷ []

-- the deadlines that rows started which are struck
abbrev pub lost_since : PastView → List DueItem
lost_since past = filter_map (lost_by past.given) past.struck

-- A revision plus the number of corrections, since each counts as a row does. If the sum needs more than 64 bits, it is left as it is.
abbrev pub later_by : (corrections revision : ℕ) → ℕ
later_by corrections revision = if nat_le (revision + corrections) 18_446_744_073_709_551_615 then revision + corrections else revision
