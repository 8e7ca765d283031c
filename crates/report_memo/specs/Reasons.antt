-- The lines of a deadline's reasons.
use Rattle.std.specs.Prelude.{◌≡◌, ℕ, List, [], ◌++◌, Option, Some, None}
use Rattle.court_days.specs.Words.{CourtView}
use Rattle.rule_periods.specs.Words.{DeadlineRowView, shown_of}
use Rattle.docket_rows.specs.Words.{Rows, deadline_in, parts_of}
use Rattle.deadline_reasons.specs.declared.reason.Reason.{Reason}
use Rattle.deadline_reasons.specs.Words.{IsDerivation}
use Rattle.reason_texts.specs.Words.{course_of, reason_lines}
use Rattle.reason_texts.specs.Periods.Words.{called_lines}
use Rattle.reason_notes.specs.Readings.Words.{DaysByReadingView, days_by_reading, reading_lines}
use Rattle.report_texts.specs.Words.{LabelsView}
use Rattle.report_memo.specs.Called.{period_back}
use Rattle.report_memo.specs.Texts.{Is}

-- the period of a deadline by its Rule, a line for each of these reasons, and a line for each other reading that gives another end
abbrev pub deadline_lines : CourtView → LabelsView → DaysByReadingView → DeadlineRowView → List Reason → List ℕ
deadline_lines court labels days row reasons =
    called_lines (period_back court.periods row.event.day row.period) row ++ reason_lines court.clock labels.holidays (course_of row.period) reasons ++ reading_lines days court.clock row

-- these lines, with the reasons of a derivation of what is shown of the deadline, where the days are these
pub record AreReasons (court : CourtView) (labels : LabelsView) (days : DaysByReadingView) (row : DeadlineRowView) (text : List ℕ) : Type 0 where
  pub reasons : List Reason
  pub derived : IsDerivation days.here court.clock row reasons (shown_of days.here court.clock row)
  pub lines : text ≡ deadline_lines court labels days row reasons

-- where there is a deadline
abbrev pub AreReasonsIfAny : CourtView → LabelsView → DaysByReadingView → Option DeadlineRowView → List ℕ → Type 0
AreReasonsIfAny court labels days None = Is []
AreReasonsIfAny court labels days (Some row) = AreReasons court labels days row

-- the days that are docketed, here and by other readings
abbrev pub days_docketed : LabelsView → (docketed : Rows) → DaysByReadingView
days_docketed labels docketed = days_by_reading docketed.days labels.doubtful

-- of the docketed deadline at that place in its case, where there is one
abbrev pub AreReasonsDocketed : CourtView → LabelsView → (docketed : Rows) → (case place : ℕ) → List ℕ → Type 0
AreReasonsDocketed court labels docketed case place = AreReasonsIfAny court labels (days_docketed labels docketed) (deadline_in (parts_of docketed) case place)
