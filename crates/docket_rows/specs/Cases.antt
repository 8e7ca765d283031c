-- A case as the docket shows it: the day on which it was filed, its deadlines, its motions, and what is recorded of it.
use Rattle.std.specs.Prelude.{ℕ, ◌+◌, ℤ, List, [], ◌∷◌, Option}
use Rattle.rule_periods.specs.Words.{DeadlineRowView}
use Rattle.hearing_slots.specs.declared.need.Need.{Need}
use Rattle.docket_rows.specs.declared.fact.Fact.{Fact}
use Rattle.docket_rows.specs.declared.hearing.Hearing.{Hearing}
use Rattle.docket_rows.specs.declared.motion.MotionRecord.{MotionRecord}

-- a deadline of a case, with its number
pub record NumberedDeadline : Type 0 where
  pub number : ℕ
  pub row : DeadlineRowView

-- a motion of a case, with its number: the day on which it was served, what notice it needs, and its hearing if one is set
pub record NumberedMotion : Type 0 where
  pub number : ℕ
  pub served : ℤ
  pub need : Need
  pub hearing : Option Hearing

-- what contracts see of a case
pub record CaseRecordView : Type 0 where
  pub filed : ℤ
  pub deadlines : List NumberedDeadline
  pub motions : List NumberedMotion
  pub facts : List Fact

-- the deadlines of a list, numbered in its order from `number` on
abbrev pub numbered_deadlines : (number : ℕ) → List DeadlineRowView → List NumberedDeadline
numbered_deadlines number [] = []
numbered_deadlines number (row ∷ rows) = record { number = number; row = row } ∷ numbered_deadlines (number + 1) rows

-- the motions of a list, numbered in its order from `number` on
abbrev pub numbered_motions : (number : ℕ) → List MotionRecord → List NumberedMotion
numbered_motions number [] = []
numbered_motions number (m ∷ ms) =
    record { number = number; served = m.served; need = m.need; hearing = m.hearing } ∷ numbered_motions (number + 1) ms
