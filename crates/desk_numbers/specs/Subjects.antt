-- Deadlines and motions that a row names without their numbers.
use Rattle.std.specs.Prelude.{ℕ, ◌-◌, Bool, false, List, [], ◌∷◌, Option, Some, None, filter, length, map, slice_get, if◌then◌else◌}
use Rattle.std.specs.Str.{bytes_eq}
use Rattle.docket_rows.specs.declared.command.Counted.{Counted}
use Rattle.docket_rows.specs.declared.command.Counted.TheVariants.{Deadline, Motion}
use Rattle.docket_rows.specs.declared.fact.Ending.{Ending}
use Rattle.docket_rows.specs.declared.sheet.Sheet.{Sheet}
use Rattle.docket_rows.specs.declared.sheet.SheetDeadline.{SheetDeadline}
use Rattle.docket_rows.specs.declared.sheet.SheetMotion.{SheetMotion}
use Rattle.docket_rows.specs.declared.sheet.State.{State}
use Rattle.docket_rows.specs.declared.sheet.State.TheVariants.{Pending}
use Rattle.docket_rows.specs.declared.view.View.{View}
use Rattle.docket_rows.specs.declared.view.View.TheVariants as view
use Rattle.rule_periods.specs.declared.period.Period.{Period}
use Rattle.rule_periods.specs.declared.period.Period.TheVariants.{Rule, Entered}
use Rattle.rule_periods.specs.declared.rule.RulePeriod.{RulePeriod}
use Rattle.rule_periods.specs.Words.{rule_code}
use Rattle.desk_numbers.specs.declared.subjects.Found.{Found}
use Rattle.desk_numbers.specs.declared.subjects.Found.TheVariants as found
use Rattle.desk_numbers.specs.declared.subjects.SubjectName.{SubjectName}
use Rattle.desk_numbers.specs.declared.subjects.SubjectName.TheVariants.{Under, Newest, Made, Called}
use Rattle.desk_numbers.specs.declared.given.Given.{Given}
use Rattle.desk_numbers.specs.Called.{TextsView, label_of}
use Rattle.desk_numbers.specs.Given.{is_of}

-- a period is that of a rule
abbrev pub is_under : RulePeriod → Period → Bool
is_under rule (Rule other) = bytes_eq (rule_code other) (rule_code rule)
is_under rule (Entered period) = false

-- a deadline under that rule is pending, and wasn't ended
abbrev pub pending_under : RulePeriod → Period → State → Option Ending → Bool
pending_under rule period Pending None = is_under rule period
pending_under rule period state ended = false

abbrev pub is_pending_under : RulePeriod → SheetDeadline → Bool
is_pending_under rule d = pending_under rule d.row.period d.state d.ended

-- a deadline or a motion of a case is called so, letter for letter
abbrev pub is_called : TextsView → (case : ℕ) → Counted → (label : List ℕ) → (number : ℕ) → Bool
is_called texts case counted label number = bytes_eq (label_of texts case counted number) label

abbrev pub is_called_deadline : TextsView → (case : ℕ) → (label : List ℕ) → SheetDeadline → Bool
is_called_deadline texts case label d = is_called texts case Deadline label d.number

abbrev pub is_called_motion : TextsView → (case : ℕ) → (label : List ℕ) → SheetMotion → Bool
is_called_motion texts case label m = is_called texts case Motion label m.number

abbrev pub deadline_number : SheetDeadline → ℕ
deadline_number d = d.number

abbrev pub motion_number : SheetMotion → ℕ
motion_number m = m.number

-- what is found among numbers: none, the one, or the first two
abbrev pub found_among : List ℕ → Found
found_among [] = found.None
found_among (number ∷ []) = found.One number
found_among (number ∷ other ∷ more) = found.Two number other

-- what is found with one more
abbrev pub with_found : Found → (number : ℕ) → Found
with_found found.None number = found.One number
with_found (found.One first) number = found.Two first number
with_found (found.Two first second) number = found.Two first second

-- the one with the number of this motion, if there is one
abbrev pub found_as : Option SheetMotion → Found
found_as None = found.None
found_as (Some motion) = found.One motion.number

-- the newest of motions, which are in the order of their rows: the last of them
abbrev pub newest_of : List SheetMotion → Found
newest_of motions = found_as (slice_get motions (length motions - 1))

-- what the row before gave, where it is of that case and kind
abbrev pub found_made : Option Given → (case : ℕ) → Counted → Found
found_made None case counted = found.None
found_made (Some given) case counted = if is_of case counted given then found.One given.number else found.None

-- What has that name on a sheet, where things are called by these texts, the row before gave this, and the row says that where a number would be. By what it is called
-- a deadline is found whether it is pending or not, and two that are called the same are both found.
abbrev pub found_on : SubjectName → TextsView → (made : Option Given) → (field : List ℕ) → Sheet → Found
found_on (Under rule) texts made field sheet = found_among (map deadline_number (filter (is_pending_under rule) sheet.deadlines))
found_on Newest texts made field sheet = newest_of sheet.motions
found_on (Made counted) texts made field sheet = found_made made sheet.case counted
found_on (Called Deadline) texts made field sheet = found_among (map deadline_number (filter (is_called_deadline texts sheet.case field) sheet.deadlines))
found_on (Called Motion) texts made field sheet = found_among (map motion_number (filter (is_called_motion texts sheet.case field) sheet.motions))

-- what has it in a case of which this is shown
abbrev pub found_in : SubjectName → TextsView → (made : Option Given) → (field : List ℕ) → View → Found
found_in name texts made field (view.Sheet sheet) = found_on name texts made field sheet
found_in name texts made field other = found.None
