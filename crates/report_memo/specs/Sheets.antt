-- A sheet with the reasons of its deadlines.
use Rattle.std.specs.Prelude.{ℕ, ℤ, List, [], ◌++◌, Option, Some, None}
use Rattle.std.specs.List.{flat_map}
use Rattle.case_numbers.specs.declared.names.NamedCase.{NamedCase}
use Rattle.court_clock.specs.Words.{ClockView}
use Rattle.court_days.specs.Words.{CourtView, DaysView}
use Rattle.docket_rows.specs.declared.fact.Ending.{Ending}
use Rattle.docket_rows.specs.declared.sheet.Sheet.{Sheet}
use Rattle.docket_rows.specs.declared.sheet.SheetDeadline.{SheetDeadline}
use Rattle.docket_rows.specs.declared.sheet.SheetHearing.{SheetHearing}
use Rattle.docket_rows.specs.declared.sheet.SheetMotion.{SheetMotion}
use Rattle.docket_rows.specs.declared.sheet.State.{State}
use Rattle.docket_rows.specs.declared.sheet.State.TheVariants.{Pending}
use Rattle.docket_rows.specs.declared.view.View.{View}
use Rattle.docket_rows.specs.declared.view.View.TheVariants as view
use Rattle.rule6.specs.declared.timeliness.Shown.{Shown}
use Rattle.rule_periods.specs.Words.{DeadlineRowView}
use Rattle.office_texts.specs.Words.{assigned_line, deadline_line, motion_lines}
use Rattle.office_texts.specs.Named.Words.{named_case_line}
use Rattle.reason_notes.specs.Readings.Words.{DaysByReadingView}
use Rattle.reason_notes.specs.Margins.Words.{ahead_line, recorded_lines}
use Rattle.reason_notes.specs.Warnings.Words.{deadline_notes, hearing_notes, moved_note}
use Rattle.report_memo.specs.declared.detail.Detail.{Detail}
use Rattle.report_memo.specs.declared.detail.Detail.TheVariants.{Reasons, Whole}
use Rattle.report_texts.specs.Words.{LabelsView, case_lines, labelled_deadline, labelled_motion}
use Rattle.report_memo.specs.Reasons.{AreReasons}
use Rattle.report_memo.specs.Sources.{source_lines}
use Rattle.report_memo.specs.Texts.{Each, Is, Then}

-- how far the end of a deadline lies from a day, where one is given, no act is recorded, and it wasn't ended
abbrev pub ahead_if_pending : ClockView → (today : Option ℤ) → State → Option Ending → Shown → List ℕ
ahead_if_pending clock (Some today) Pending None shown = ahead_line clock today shown
ahead_if_pending clock today state ended shown = []

-- the line of a case, and that of who has it
unfoldable pub standing_lines : CourtView → List NamedCase → Sheet → List ℕ
standing_lines court named sheet = named_case_line named sheet ++ assigned_line court.judges sheet.assigned

-- these, and on the whole sheet of the case that of its title between them
abbrev pub lines_of_case : CourtView → LabelsView → Detail → Sheet → List ℕ
lines_of_case court labels Reasons sheet = standing_lines court labels.cases sheet
lines_of_case court labels (Whole today sources) sheet = case_lines court labels sheet

-- what comes before the reasons of a deadline: its line, and on the whole sheet of a case that of its label and the rows that made it
-- what it is
abbrev pub first_lines : ClockView → LabelsView → (case : ℕ) → Detail → SheetDeadline → List ℕ
first_lines clock labels case Reasons d = deadline_line clock d
first_lines clock labels case (Whole today sources) d = labelled_deadline clock labels case d ++ source_lines d.number sources

-- what a reader is warned of a deadline for the act of one of the same sheet, if that is recorded
abbrev pub moved_on_sheet : DeadlineRowView → (other : SheetDeadline) → List ℕ
moved_on_sheet row other = moved_note row other.row other.row.filed

-- what comes after them on the whole sheet: the act that is recorded and by how much it was in time or late, how far the end lies from
-- a day, and what a reader is warned of, also for the acts of the sheet's deadlines
abbrev pub whole_lines : CourtView → DaysView → Sheet → (today : Option ℤ) → SheetDeadline → List ℕ
whole_lines court days sheet today d =
    recorded_lines days court.clock (Some d.row) ++ ahead_if_pending court.clock today d.state d.ended d.shown ++ deadline_notes days court.clock sheet.filed today d.row d.shown ++ flat_map (moved_on_sheet d.row) sheet.deadlines

abbrev pub more_lines : CourtView → DaysView → Sheet → Detail → SheetDeadline → List ℕ
more_lines court days sheet Reasons d = []
more_lines court days sheet (Whole today sources) d = whole_lines court days sheet today d

-- the line of a deadline on a sheet, its reasons, and what comes before and after them
abbrev pub IsDeadline : CourtView → LabelsView → DaysByReadingView → Sheet → Detail → SheetDeadline → List ℕ → Type 0
IsDeadline court labels days sheet detail d =
    Then (Is (first_lines court.clock labels sheet.case detail d)) (Then (AreReasons court labels days d.row) (Is (more_lines court days.here sheet detail d)))

-- what a reader is warned of a hearing, where one is set
abbrev pub notes_if_set : DaysView → Option SheetHearing → List ℕ
notes_if_set days (Some h) = hearing_notes days h.hearing.day
notes_if_set days None = []

-- a motion on the whole sheet of a case
abbrev pub whole_motion : CourtView → LabelsView → (case : ℕ) → DaysView → SheetMotion → List ℕ
whole_motion court labels case days m = labelled_motion court labels case m ++ notes_if_set days m.hearing

abbrev pub motions_text : CourtView → LabelsView → (case : ℕ) → DaysView → Detail → List SheetMotion → List ℕ
motions_text court labels case days Reasons motions = flat_map (motion_lines court) motions
motions_text court labels case days (Whole today sources) motions = flat_map (whole_motion court labels case days) motions

-- the lines of the case, then its deadlines, each with its reasons, then its motions
abbrev pub IsSheet : CourtView → LabelsView → DaysByReadingView → Detail → Sheet → List ℕ → Type 0
IsSheet court labels days detail sheet =
    Then (Is (lines_of_case court labels detail sheet)) (Then (Each (IsDeadline court labels days sheet detail) sheet.deadlines) (Is (motions_text court labels sheet.case days.here detail sheet.motions)))

-- a case that isn't open shows none
abbrev pub IsSheetShown : CourtView → LabelsView → DaysByReadingView → View → List ℕ → Type 0
IsSheetShown court labels days (view.Sheet sheet) = IsSheet court labels days Reasons sheet
IsSheetShown court labels days _ = Is []
