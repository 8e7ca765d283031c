-- The sheets of cases, with the reasons of each deadline.
use Rattle.std.specs.Prelude.{ℕ, ℤ, List, [], ◌∷◌, ◌++◌, Option, Some, None, codes}
use Rattle.json.specs.Json.{Json, string}
use Rattle.court_clock.specs.Words.{ClockView}
use Rattle.court_days.specs.Words.{CourtView}
use Rattle.deadline_reasons.specs.declared.reason.Reason.{Reason}
use Rattle.deadline_reasons.specs.declared.reason.Reason.TheVariants.{SetAt, HoursFrom, HoursCounted, SameTime, UntilInstant}
use Rattle.reason_texts.specs.declared.course.Course.{Course}
use Rattle.reason_texts.specs.Words.{course_after, course_of, day_shown, section_text, what_text}
use Rattle.docket_rows.specs.declared.command.Counted.TheVariants.{Deadline}
use Rattle.desk_numbers.specs.Words.{label_of}
use Rattle.docket_selection.specs.declared.explained.explained.ExplainedDeadline.{ExplainedDeadline}
use Rattle.docket_selection.specs.declared.explained.explained.ExplainedSheet.{ExplainedSheet}
use Rattle.report_texts.specs.Words.{LabelsView}
use Rattle.report_json.specs.Cases.{called_case_fields, label_fields}
use Rattle.report_json.specs.Deadlines.{deadline_fields, shown_value}
use Rattle.report_json.specs.Motions.{labelled_motion}
use Rattle.report_json.specs.Sheets.{sheet_docketed}
use Rattle.report_json.specs.Times.{day_value, instant_value}
use Rattle.report_json.specs.Values.{Field, array_of, field, object_of, or_null}

-- the instant that a reason is about, where it is about one
abbrev pub instant_shown : Reason → Option ℤ
instant_shown (SetAt instant) = Some instant
instant_shown (HoursFrom instant) = Some instant
instant_shown (HoursCounted hours instant forward) = Some instant
instant_shown (SameTime day instant) = Some instant
instant_shown (UntilInstant instant) = Some instant
instant_shown _ = None

-- the day and the instant that a reason is about, what happened, and the section of the Rules by which it goes; no holiday is
-- called by a name of the court's file
abbrev pub reason_fields : ClockView → Course → Reason → List Field
reason_fields clock course r =
    field (codes "day") (or_null day_value (day_shown clock r))
    ∷ field (codes "at") (or_null (instant_value clock.zone) (instant_shown r))
    ∷ field (codes "text") (string (what_text clock [] course.direction r))
    ∷ field (codes "section") (string (section_text course r))
    ∷ []

unfoldable pub reason_value : ClockView → Course → Reason → Json
reason_value clock course r = object_of (reason_fields clock course r)

-- the reasons in their order, each in the course of those before it
unfoldable pub reason_values : ClockView → Course → List Reason → List Json
reason_values clock course [] = []
reason_values clock course (r ∷ reasons) = reason_value clock course r ∷ reason_values clock (course_after course r) reasons

abbrev pub reasons_field : ClockView → ExplainedDeadline → Field
reasons_field clock e = field (codes "reasons") (array_of (reason_values clock (course_of e.deadline.row.period) e.reasons.items))

-- when its time ends by another reading, if one gives another end, and why it ends when it does
abbrev pub why_fields : ClockView → ExplainedDeadline → List Field
why_fields clock e = field (codes "other_reading") (or_null (shown_value clock.zone) e.other) ∷ reasons_field clock e ∷ []

abbrev pub explained_fields : ClockView → ExplainedDeadline → List Field
explained_fields clock e = deadline_fields clock.zone e.deadline ++ why_fields clock e

-- a deadline of a case, with its reasons, and what rows call it
abbrev pub labelled_fields : ClockView → LabelsView → (case : ℕ) → ExplainedDeadline → List Field
labelled_fields clock labels case e = explained_fields clock e ++ label_fields (label_of labels.called case Deadline e.deadline.number)

unfoldable pub labelled_value : ClockView → LabelsView → (case : ℕ) → ExplainedDeadline → Json
labelled_value clock labels case e = object_of (labelled_fields clock labels case e)

-- a case, with the reasons of each of its deadlines, and with what rows call it, its deadlines and its motions
abbrev pub explained_sheet_fields : CourtView → LabelsView → ExplainedSheet → List Field
explained_sheet_fields court labels e =
    called_case_fields labels e.case ++ sheet_docketed (labelled_value court.clock labels e.case) (labelled_motion court labels e.case) court e.filed e.closed e.assigned e.deadlines.items e.motions

unfoldable pub case_value : CourtView → LabelsView → ExplainedSheet → Json
case_value court labels e = object_of (explained_sheet_fields court labels e)
