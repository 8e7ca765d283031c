-- What each command does to the rows, and what it is answered.
use Rattle.std.specs.Prelude.{ℕ, ℤ, Bool, true, false, not, is_some, List, [], ◌∷◌, ◌++◌, map, filter, option_map, if◌then◌else◌}
use Rattle.std.specs.Option.{option_map_or}
use Rattle.court_days.specs.Words.{add_holiday, add_outage}
use Rattle.rule6.specs.declared.timeliness.Shown.{Shown}
use Rattle.rule6.specs.declared.timeliness.Shown.TheVariants as shown
use Rattle.rule6.specs.Words.{is_in_time}
use Rattle.rule_periods.specs.Words.{DeadlineRowView, anew_if, is_order, kept_filing, with_grant, with_filing}
use Rattle.docket_rows.specs.declared.answer.Answer.{Answer}
use Rattle.docket_rows.specs.declared.answer.Answer.TheVariants as answer
use Rattle.docket_rows.specs.declared.command.Command.{Command}
use Rattle.docket_rows.specs.declared.command.Command.TheVariants.{OpenCase, Start, FileAct, Extend, Motion, Book, MoveHearing, Cancel, Holiday, Inaccessible, Fact}
use Rattle.docket_rows.specs.declared.fact.Fact.{Fact as FactOf}
use Rattle.docket_rows.specs.declared.fact.Fact.TheVariants.{Ended, Resumed, Closed, Reopened, Ruled, Assigned, Titled, Labelled}
use Rattle.docket_rows.specs.declared.hearing.Hearing.{Hearing}
use Rattle.docket_rows.specs.declared.hearing.Setting.{Setting}
use Rattle.docket_rows.specs.CourtSetup.{CourtSetup}
use Rattle.docket_rows.specs.Facts.{is_kept}
use Rattle.docket_rows.specs.Hearings.{hearing_asked}
use Rattle.docket_rows.specs.Parts.{Parts, hearing_of, parts_of}
use Rattle.docket_rows.specs.Refusals.{refusal}
use Rattle.docket_rows.specs.Rows.{Rows, DocketedDeadline, DocketedHearing, DocketedFact, is_deadline, is_hearing}
use Rattle.docket_rows.specs.Seen.{has_one, deadline_in, hearing_ahead, if_ahead, next_deadline, next_motion, started, shown_now}

-- the row with a change, if it is that deadline's
abbrev pub with_deadline : (case number : ℕ) → (DeadlineRowView → DeadlineRowView) → DocketedDeadline → DocketedDeadline
with_deadline case number change d = if is_deadline case number d then record d { row = change d.row } else d

-- the rows with a change of that deadline, with one more hearing, and without the hearing of that motion
abbrev pub with_changed : (case number : ℕ) → (DeadlineRowView → DeadlineRowView) → Rows → Rows
with_changed case number change rows = record rows { deadlines = map (with_deadline case number change) rows.deadlines }

abbrev pub with_hearing : Setting → Rows → Rows
with_hearing s rows = record rows { hearings = rows.hearings ++ record { case = s.case; motion = s.motion; hearing = hearing_asked s } ∷ [] }

abbrev pub without_hearing : (case motion : ℕ) → Rows → Rows
without_hearing case motion rows = record rows { hearings = filter (λ h. not (is_hearing case motion h)) rows.hearings }

-- the row of a fact of the case, if it is one that is kept
abbrev pub fact_kept : (case : ℕ) → FactOf → List DocketedFact
fact_kept case fact = if is_kept fact then record { case = case; fact = fact } ∷ [] else []

-- the rows with one more fact of a case, if it is one that is kept
abbrev pub with_fact : (case : ℕ) → FactOf → Rows → Rows
with_fact case fact rows = record rows { facts = rows.facts ++ fact_kept case fact }

-- the hearings without that of the motion, where it is after the day; one of that day or before stays
abbrev pub hearings_until : (case motion : ℕ) → (day : ℤ) → Rows → List DocketedHearing
hearings_until case motion day rows =
    if is_some (if_ahead day (hearing_of rows case motion)) then (without_hearing case motion rows).hearings else rows.hearings

-- what a fact changes of the rows beside the list of facts: a deadline that is resumed may run anew, and a ruling takes a later hearing of
-- its motion out
abbrev pub rows_by_fact : (case : ℕ) → FactOf → Rows → Rows
rows_by_fact case (Ended deadline why dated) rows = rows
rows_by_fact case (Resumed deadline day dated) rows = with_changed case deadline (λ row. anew_if row day) rows
rows_by_fact case (Closed why dated) rows = rows
rows_by_fact case (Reopened dated) rows = rows
rows_by_fact case (Ruled motion how dated) rows = record rows { hearings = hearings_until case motion dated rows }
rows_by_fact case (Assigned judge referred dated) rows = rows
rows_by_fact case Titled rows = rows
rows_by_fact case (Labelled counted number) rows = rows

-- the rows after a command that isn't refused
abbrev pub rows_after : Rows → Command → Rows
rows_after rows (OpenCase case filed) =
    record rows { cases = rows.cases ++ record { case = case; filed = filed } ∷ [] }
rows_after rows (Start case period event second service) =
    record rows { deadlines = rows.deadlines ++ record { case = case; number = next_deadline (parts_of rows) case; row = started period event second service } ∷ [] }
rows_after rows (FileAct case deadline filing) = with_changed case deadline (λ row. with_filing row filing) rows
rows_after rows (Extend case deadline request) = with_changed case deadline (λ row. with_grant row request.grant) rows
rows_after rows (Motion case served need) =
    record rows { motions = rows.motions ++ record { case = case; number = next_motion (parts_of rows) case; served = served; need = need } ∷ [] }
rows_after rows (Book s) = with_hearing s rows
rows_after rows (MoveHearing s) = with_hearing s (without_hearing s.case s.motion rows)
rows_after rows (Cancel case motion) = without_hearing case motion rows
rows_after rows (Holiday day list) = record rows { days = add_holiday rows.days list day }
rows_after rows (Inaccessible day from to) = record rows { days = add_outage rows.days (record { day = day; from = from; to = to }) }
rows_after rows (Fact case fact) = rows_by_fact case fact (with_fact case fact rows)

-- the answer to an extension, and to an order that sets another end: when the time ends now
abbrev pub ended_answer : (order : Bool) → Shown → Answer
ended_answer false end = answer.Extended end
ended_answer true end = answer.Reset end

-- what a command that isn't refused is answered; an act is timely by Rule 6(a)(4)
abbrev pub answer_if_made : CourtSetup → Parts → Command → Answer
answer_if_made setup parts (OpenCase case filed) = answer.Opened
answer_if_made setup parts (Start case period event second service) =
    answer.Started (next_deadline parts case) (shown_now setup parts (started period event second service))
answer_if_made setup parts (FileAct case deadline filing) =
    answer.Filed (has_one (λ row. is_in_time setup.clock (shown_now setup parts row) (kept_filing filing)) (deadline_in parts case deadline))
answer_if_made setup parts (Extend case deadline request) =
    ended_answer (is_order request.grant) (option_map_or (λ row. shown_now setup parts (with_grant row request.grant)) (deadline_in parts case deadline) shown.Beyond)
answer_if_made setup parts (Motion case served need) = answer.MotionEntered (next_motion parts case)
answer_if_made setup parts (Book s) = answer.Booked
answer_if_made setup parts (MoveHearing s) = answer.Moved
answer_if_made setup parts (Cancel case motion) = answer.Cancelled
answer_if_made setup parts (Holiday day list) = answer.HolidayEntered
answer_if_made setup parts (Inaccessible day from to) = answer.OutageEntered
answer_if_made setup parts (Fact case (Ended deadline why dated)) = answer.Ended
answer_if_made setup parts (Fact case (Resumed deadline day dated)) =
    answer.Resumed (option_map_or (λ row. shown_now setup parts (anew_if row day)) (deadline_in parts case deadline) shown.Beyond)
answer_if_made setup parts (Fact case (Closed why dated)) = answer.Closed
answer_if_made setup parts (Fact case (Reopened dated)) = answer.Reopened
answer_if_made setup parts (Fact case (Ruled motion how dated)) =
    answer.Ruled (option_map (λ (h : Hearing). h.day) (hearing_ahead parts case motion dated))
answer_if_made setup parts (Fact case (Assigned judge referred dated)) = answer.Assigned
answer_if_made setup parts (Fact case Titled) = answer.Titled
answer_if_made setup parts (Fact case (Labelled counted number)) = answer.Labelled

-- what a command is answered where the parts are these
unfoldable pub answered : CourtSetup → Parts → Command → Answer
answered setup parts command = option_map_or answer.Refused (refusal setup parts command) (answer_if_made setup parts command)

-- One step of the docket: the rows after a command, and its answer. A refused command leaves the rows as they are.
unfoldable pub step : CourtSetup → Rows → Command → Rows × Answer
step setup rows command =
    (option_map_or (λ r. rows) (refusal setup (parts_of rows) command) (rows_after rows command), answered setup (parts_of rows) command)

-- the rows after some commands, from the first on
unfoldable pub rows_from : CourtSetup → Rows → List Command → Rows
rows_from setup rows [] = rows
rows_from setup rows (c ∷ cs) = rows_from setup (step setup rows c).0 cs
