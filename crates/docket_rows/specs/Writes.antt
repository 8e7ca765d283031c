-- Which parts a command writes, and what it writes into them.
use Rattle.std.specs.Prelude.{ℕ, ℤ, ◌+◌, ◌==◌, is_none, is_some, List, [], ◌∷◌, ◌++◌, find, length, map, Option, Some, None, option_map, unwrap_or, if◌then◌else◌}
use Rattle.std.specs.List.{filter_map}
use Rattle.std.specs.Option.{option_and_then}
use Rattle.court_days.specs.Words.{DaysView, add_holiday, add_outage}
use Rattle.rule_periods.specs.Words.{DeadlineRowView, anew_if, with_grant, with_filing}
use Rattle.hearing_slots.specs.declared.booking.Booking.{Booking}
use Rattle.docket_rows.specs.declared.command.Command.{Command}
use Rattle.docket_rows.specs.declared.command.Command.TheVariants.{OpenCase, Start, FileAct, Extend, Motion, Book, MoveHearing, Cancel, Holiday, Inaccessible, Fact}
use Rattle.docket_rows.specs.declared.fact.Fact.{Fact as FactOf}
use Rattle.docket_rows.specs.declared.fact.Fact.TheVariants.{Ended, Resumed, Closed, Reopened, Ruled, Assigned, Titled, Labelled}
use Rattle.docket_rows.specs.declared.hearing.Hearing.{Hearing}
use Rattle.docket_rows.specs.declared.part.PartId.{PartId}
use Rattle.docket_rows.specs.declared.part.PartId.TheVariants.{Court, Judge, Room, Case}
use Rattle.docket_rows.specs.declared.part.PartValue.{PartValue}
use Rattle.docket_rows.specs.declared.part.PartValue.TheVariants as value
use Rattle.docket_rows.specs.declared.rebooking.Rebooking.{Rebooking}
use Rattle.docket_rows.specs.CourtSetup.{CourtSetup}
use Rattle.docket_rows.specs.Cases.{CaseRecordView, NumberedDeadline, NumberedMotion}
use Rattle.docket_rows.specs.Facts.{add_fact}
use Rattle.docket_rows.specs.Hearings.{hearing_asked}
use Rattle.docket_rows.specs.Parts.{Parts, parts_read, part_value}
use Rattle.docket_rows.specs.Rebooking.{rebooking_of, changed_by, judge_change, room_change}
use Rattle.docket_rows.specs.Refusals.{refusal}
use Rattle.docket_rows.specs.Seen.{if_ahead, started}

-- the case with one more deadline, with a change of a deadline, with one more motion, and with a motion's hearing set
-- or taken out
abbrev pub add_deadline : DeadlineRowView → CaseRecordView → CaseRecordView
add_deadline row c = record c { deadlines = c.deadlines ++ record { number = length c.deadlines + 1; row = row } ∷ [] }

abbrev pub change_deadline : (number : ℕ) → (DeadlineRowView → DeadlineRowView) → CaseRecordView → CaseRecordView
change_deadline number change c =
    record c { deadlines = map (λ (d : NumberedDeadline). if d.number == number then record d { row = change d.row } else d) c.deadlines }

abbrev pub add_motion : NumberedMotion → CaseRecordView → CaseRecordView
add_motion m c = record c { motions = c.motions ++ m ∷ [] }

abbrev pub set_hearing : (motion : ℕ) → Option Hearing → CaseRecordView → CaseRecordView
set_hearing motion h c =
    record c { motions = map (λ (m : NumberedMotion). if m.number == motion then record m { hearing = h } else m) c.motions }

-- the hearing that is set for a motion of the case
abbrev pub hearing_set : (motion : ℕ) → CaseRecordView → Option Hearing
hearing_set motion c =
    option_and_then (λ (m : NumberedMotion). m.hearing) (find (λ (m : NumberedMotion). m.number == motion) c.motions)

-- the case without the hearing of a motion, where that is after the day
abbrev pub without_ahead : (motion : ℕ) → (day : ℤ) → CaseRecordView → CaseRecordView
without_ahead motion day c = if is_some (if_ahead day (hearing_set motion c)) then set_hearing motion None c else c

-- what a fact changes of its case beside the list of facts: a deadline that is resumed may run anew, and a ruling takes a later hearing of
-- its motion out
abbrev pub changed_by_fact : FactOf → CaseRecordView → CaseRecordView
changed_by_fact (Ended deadline why dated) c = c
changed_by_fact (Resumed deadline day dated) c = change_deadline deadline (λ row. anew_if row day) c
changed_by_fact (Closed why dated) c = c
changed_by_fact (Reopened dated) c = c
changed_by_fact (Ruled motion how dated) c = without_ahead motion dated c
changed_by_fact (Assigned judge referred dated) c = c
changed_by_fact Titled c = c
changed_by_fact (Labelled counted number) c = c

-- the days, where the command changes them
abbrev pub days_written : DaysView → Command → Option DaysView
days_written days (Holiday day list) = Some (add_holiday days list day)
days_written days (Inaccessible day from to) = Some (add_outage days (record { day = day; from = from; to = to }))
days_written days _ = None

-- the case that a command is about, if it is about one
abbrev pub case_of : Command → Option ℕ
case_of (OpenCase case filed) = Some case
case_of (Start case period event second service) = Some case
case_of (FileAct case deadline filing) = Some case
case_of (Extend case deadline request) = Some case
case_of (Motion case served need) = Some case
case_of (Book s) = Some s.case
case_of (MoveHearing s) = Some s.case
case_of (Cancel case motion) = Some case
case_of (Holiday day list) = None
case_of (Inaccessible day from to) = None
case_of (Fact case fact) = Some case

-- an open case after a command about the hearing of a motion in it; another command leaves it as it was
abbrev pub hearing_after : Command → CaseRecordView → CaseRecordView
hearing_after (Book s) c = set_hearing s.motion (Some (hearing_asked s)) c
hearing_after (MoveHearing s) c = set_hearing s.motion (Some (hearing_asked s)) c
hearing_after (Cancel case motion) c = set_hearing motion None c
hearing_after _ c = c

-- an open case after a command about it
abbrev pub record_after : Command → CaseRecordView → CaseRecordView
record_after (Start case period event second service) c = add_deadline (started period event second service) c
record_after (FileAct case deadline filing) c = change_deadline deadline (λ row. with_filing row filing) c
record_after (Extend case deadline request) c = change_deadline deadline (λ row. with_grant row request.grant) c
record_after (Motion case served need) c =
    add_motion (record { number = length c.motions + 1; served = served; need = need; hearing = None }) c
record_after (Fact case fact) c = changed_by_fact fact (add_fact fact c)
record_after command c = hearing_after command c

-- a case, open or not, after a command about it
abbrev pub case_after : Command → Option CaseRecordView → Option CaseRecordView
case_after (OpenCase case filed) c = Some (record { filed = filed; deadlines = []; motions = []; facts = [] })
case_after command c = option_map (record_after command) c

-- the case, where the command changes it
abbrev pub case_written : Parts → Command → (case : ℕ) → Option CaseRecordView
case_written parts command n =
    option_and_then (λ case. if n == case then case_after command (parts.case n) else None) (case_of command)

-- the calendar of the judge, and of the room, where the command changes it
abbrev pub judge_written : Parts → Command → (judge : ℕ) → Option (List Booking)
judge_written parts command judge =
    option_and_then (λ (r : Rebooking). changed_by (judge_change r judge) (parts.judge judge)) (rebooking_of parts command)

abbrev pub room_written : Parts → Command → (room : ℕ) → Option (List Booking)
room_written parts command room =
    option_and_then (λ (r : Rebooking). changed_by (room_change r room) (parts.room room)) (rebooking_of parts command)

-- what a command that isn't refused writes into a part, if it touches it
abbrev pub changed : Parts → Command → PartId → Option PartValue
changed parts command Court = option_map value.Days (days_written parts.days command)
changed parts command (Judge judge) = option_map value.Calendar (judge_written parts command judge)
changed parts command (Room room) = option_map value.Calendar (room_written parts command room)
changed parts command (Case case) = option_map (λ c. value.Case (Some c)) (case_written parts command case)

-- what a part holds after a command: what the command writes into it, where it isn't refused and touches the part, and
-- else what it held
abbrev pub part_after : CourtSetup → Parts → Command → PartId → PartValue
part_after setup parts command part =
    if is_none (refusal setup parts command)
    then unwrap_or (changed parts command part) (part_value parts part)
    else part_value parts part

-- what is written on these reads: each part read that the command changes, in read order; nothing where it is refused
unfoldable pub written_on : CourtSetup → Command → List (PartId × PartValue) → List (PartId × PartValue)
written_on setup command reads =
    let parts = parts_read setup reads in
    if is_none (refusal setup parts command)
    then filter_map (λ (r : PartId × PartValue). option_map (λ v. (r.0, v)) (changed parts command r.0)) reads
    else []
