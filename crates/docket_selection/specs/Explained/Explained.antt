-- The sheets of cases, with the reasons of each deadline.
use Rattle.std.specs.Prelude.{◌≡◌, ℤ, List, [], ◌∷◌, ⊤}
use Rattle.court_clock.specs.Words.{ClockView}
use Rattle.court_days.specs.Words.{DaysView}
use Rattle.rule_periods.specs.Words.{shown_of}
use Rattle.docket_rows.specs.declared.sheet.Sheet.{Sheet}
use Rattle.docket_rows.specs.declared.sheet.SheetDeadline.{SheetDeadline}
use Rattle.deadline_reasons.specs.Words.{IsDerivation}
use Rattle.reason_notes.specs.Readings.Words.{DaysByReadingView, days_by_reading, other_end}
use Rattle.docket_selection.specs.declared.explained.explained.ExplainedDeadline.{ExplainedDeadline}
use Rattle.docket_selection.specs.declared.explained.explained.ExplainedSheet.{ExplainedSheet}

-- The two lists are as long as each other, and the relation holds of each two in the same place.
abbrev pub AreAlike : {X Y : Type 0} → (X → Y → Type 0) → List X → List Y → Type 0
AreAlike R [] [] = ⊤
AreAlike R [] (y ∷ ys) = ⊥
AreAlike R (x ∷ xs) [] = ⊥
AreAlike R (x ∷ xs) (y ∷ ys) = R x y × AreAlike R xs ys

-- the deadline, with the reasons of a derivation of what is shown of it, and the end by another reading, if there is one
pub record IsExplained (days : DaysByReadingView) (clock : ClockView) (d : SheetDeadline) (e : ExplainedDeadline) : Type 0 where
  pub same : e.deadline ≡ d
  pub derived : IsDerivation days.here clock d.row e.reasons.items (shown_of days.here clock d.row)
  pub other : e.other ≡ other_end days clock d.row

-- the sheet, with each of its deadlines explained, in their order
pub record IsSheetExplained (days : DaysByReadingView) (clock : ClockView) (s : Sheet) (e : ExplainedSheet) : Type 0 where
  pub case : e.case ≡ s.case
  pub filed : e.filed ≡ s.filed
  pub closed : e.closed ≡ s.closed
  pub assigned : e.assigned ≡ s.assigned
  pub deadlines : AreAlike (IsExplained days clock) s.deadlines e.deadlines.items
  pub motions : e.motions ≡ s.motions

-- each of the sheets, in their order, where these days are doubtful
abbrev pub AreExplained : DaysView → ClockView → (doubtful : List ℤ) → List Sheet → List ExplainedSheet → Type 0
AreExplained days clock doubtful sheets explained = AreAlike (IsSheetExplained (days_by_reading days doubtful) clock) sheets explained
