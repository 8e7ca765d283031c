-- The docket of a court, as six lists of rows.
use Rattle.std.specs.Prelude.{ℕ, ℤ, Bool, ◌&&◌, ◌==◌, List, []}
use Rattle.court_days.specs.Words.{DaysView}
use Rattle.rule_periods.specs.Words.{DeadlineRowView}
use Rattle.hearing_slots.specs.declared.need.Need.{Need}
use Rattle.docket_rows.specs.declared.fact.Fact.{Fact}
use Rattle.docket_rows.specs.declared.hearing.Hearing.{Hearing}
use Rattle.docket_rows.specs.CourtSetup.{CourtSetup}

-- a case, and the day on which it was filed
pub record DocketedCase : Type 0 where
  pub case : ℕ
  pub filed : ℤ

-- a deadline of a case, by its number in the case
pub record DocketedDeadline : Type 0 where
  pub case : ℕ
  pub number : ℕ
  pub row : DeadlineRowView

-- a motion of a case, by its number in the case: the day on which it was served, and what notice it needs
pub record DocketedMotion : Type 0 where
  pub case : ℕ
  pub number : ℕ
  pub served : ℤ
  pub need : Need

-- the hearing of a motion of a case
pub record DocketedHearing : Type 0 where
  pub case : ℕ
  pub motion : ℕ
  pub hearing : Hearing

-- what is recorded of a case
pub record DocketedFact : Type 0 where
  pub case : ℕ
  pub fact : Fact

-- the court's days with its holidays and outages, and what is docketed
pub record Rows : Type 0 where
  pub days : DaysView
  pub cases : List DocketedCase
  pub deadlines : List DocketedDeadline
  pub motions : List DocketedMotion
  pub hearings : List DocketedHearing
  pub facts : List DocketedFact

-- the days of the court's file, and nothing docketed
abbrev pub opening_rows : CourtSetup → Rows
opening_rows setup = record { days = setup.days; cases = []; deadlines = []; motions = []; hearings = []; facts = [] }

-- the row is that of the case, of its deadline, of its motion, of the hearing of its motion, or of a fact of it
abbrev pub is_case : (case : ℕ) → DocketedCase → Bool
is_case case row = row.case == case

abbrev pub is_deadline_in : (case : ℕ) → DocketedDeadline → Bool
is_deadline_in case row = row.case == case

abbrev pub is_deadline : (case number : ℕ) → DocketedDeadline → Bool
is_deadline case number row = row.case == case && row.number == number

abbrev pub is_motion_in : (case : ℕ) → DocketedMotion → Bool
is_motion_in case row = row.case == case

abbrev pub is_motion : (case number : ℕ) → DocketedMotion → Bool
is_motion case number row = row.case == case && row.number == number

abbrev pub is_hearing : (case motion : ℕ) → DocketedHearing → Bool
is_hearing case motion row = row.case == case && row.motion == motion

abbrev pub is_fact_in : (case : ℕ) → DocketedFact → Bool
is_fact_in case row = row.case == case
