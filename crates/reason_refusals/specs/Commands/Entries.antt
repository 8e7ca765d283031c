-- The entries on which a refusal rests: a deadline, and a motion as the sheet of its case shows it.
use Rattle.std.specs.Prelude.{ℕ, ◌==◌, find, Option, Some, None}
use Rattle.rule_periods.specs.Words.{DeadlineRowView}
use Rattle.docket_rows.specs.declared.query.Query.TheVariants as query
use Rattle.docket_rows.specs.declared.sheet.SheetMotion.{SheetMotion}
use Rattle.docket_rows.specs.declared.view.View.{View}
use Rattle.docket_rows.specs.declared.view.View.TheVariants as view
use Rattle.docket_rows.specs.Words.{CourtSetup, Parts, deadline_in, seen_by}

-- the deadline of a case and a number, if they are given and there is one
abbrev pub deadline_at : Parts → Option (ℕ × ℕ) → Option DeadlineRowView
deadline_at parts (Some at) = deadline_in parts at.0 at.1
deadline_at parts None = None

-- the motion of that number on a sheet
abbrev pub motion_viewed : (number : ℕ) → View → Option SheetMotion
motion_viewed number (view.Sheet sheet) = find (λ (m : SheetMotion). m.number == number) sheet.motions
motion_viewed number v = None

-- the motion of a case and a number, as the sheet of the case shows it
abbrev pub motion_at : CourtSetup → Parts → Option (ℕ × ℕ) → Option SheetMotion
motion_at setup parts (Some at) = motion_viewed at.1 (seen_by setup parts (query.Sheet at.0))
motion_at setup parts None = None
