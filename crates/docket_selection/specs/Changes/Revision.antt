-- Which row changed an event last.
use Rattle.std.specs.Prelude.{ℕ, ◌==◌, max, Bool, true, false, List, Option, Some, None, fold, if◌then◌else◌}
use Rattle.docket_rows.specs.Words.{has_one}
use Rattle.docket_selection.specs.declared.changes.change.Change.{Change}
use Rattle.docket_selection.specs.declared.changes.change.Change.TheVariants.{Days, Deadline, Hearing, Judges}
use Rattle.docket_selection.specs.declared.changes.change.RowChange.{RowChange}

abbrev pub changes_days : Change → Bool
changes_days Days = true
changes_days (Deadline case) = false
changes_days (Hearing h) = false
changes_days (Judges case to referred) = false

-- the case of the deadline, the hearing or the judges that are changed
abbrev pub case_changed : Change → Option ℕ
case_changed Days = None
case_changed (Deadline case) = Some case
case_changed (Hearing h) = Some h.case
case_changed (Judges case to referred) = Some case

abbrev pub changes_case : (case : ℕ) → Change → Bool
changes_case case change = has_one (λ of. of == case) (case_changed change)

-- the greatest number of a row whose change is such; 0 where none is
abbrev pub last_row : (is_such : Change → Bool) → List RowChange → ℕ
last_row is_such changes = fold (λ before (c : RowChange). if is_such c.change then max before c.row else before) 0 changes

-- The revision of the events of a case: the number of the last row that changed a deadline, a hearing or the judges of the case, or the
-- court's days, on which all deadlines rest. 0 where no row did.
abbrev pub revision_of : (case : ℕ) → List RowChange → ℕ
revision_of case changes = max (last_row changes_days changes) (last_row (changes_case case) changes)
