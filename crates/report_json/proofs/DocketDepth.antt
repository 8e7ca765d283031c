-- How deep the values of a docket nest.
use Rattle.std.proofs.Common.{◌≤◌, ◌+◌, ℕ, ℤ, List, [], ◌∷◌, ◌++◌, Option, Some, None, length, map, codes, slice_get, arith}
use Rattle.std.specs.List.{range_with_len}
use Rattle.std.specs.Option.{option_and_then}
use Rattle.json.specs.Json.{Json, string, max_depth}
use Rattle.json.specs.Tree.{depth}
use Rattle.jiff_tz.specs.declared.timezone.TimeZone.{TimeZone}
use Rattle.case_numbers.specs.Words.{name_of}
use Rattle.case_numbers.specs.declared.names.NamedCase.{NamedCase}
use Rattle.court_clock.specs.Words.{ClockView}
use Rattle.court_days.specs.Words.{CourtView}
use Rattle.rule6.specs.declared.timeliness.Filing.{Filing}
use Rattle.rule6.specs.declared.timeliness.Shown.{Shown}
use Rattle.rule_periods.specs.declared.grant.Grant.{Grant}
use Rattle.rule_periods.specs.declared.grant.Grant.TheVariants as grant
use Rattle.rule_periods.specs.declared.period.Entered.{Entered}
use Rattle.rule_periods.specs.Words.{DeadlineRowView, EventView}
use Rattle.hearing_slots.specs.declared.booking.Booking.{Booking}
use Rattle.docket_rows.specs.declared.answer.Answer.{Answer}
use Rattle.docket_rows.specs.declared.answer.Answer.TheVariants.{Opened, Started, Filed, Extended, Reset, MotionEntered, Booked, Moved, Cancelled, HolidayEntered, OutageEntered, Ended, Resumed, Closed, Reopened, Ruled, Assigned, Titled, Labelled, Refused}
use Rattle.docket_rows.specs.declared.command.Counted.TheVariants.{Deadline, Motion}
use Rattle.docket_rows.specs.declared.fact.Assignment.{Assignment}
use Rattle.docket_rows.specs.declared.fact.Closure.{Closure}
use Rattle.docket_rows.specs.declared.fact.DatedRuling.{DatedRuling}
use Rattle.docket_rows.specs.declared.fact.Ending.{Ending}
use Rattle.docket_rows.specs.declared.refusal.Refusal.{Refusal}
use Rattle.docket_rows.specs.declared.sheet.Sheet.{Sheet}
use Rattle.docket_rows.specs.declared.sheet.SheetDeadline.{SheetDeadline}
use Rattle.docket_rows.specs.declared.sheet.SheetHearing.{SheetHearing}
use Rattle.docket_rows.specs.declared.sheet.SheetMotion.{SheetMotion}
use Rattle.docket_rows.specs.declared.view.View.{View}
use Rattle.docket_rows.specs.declared.view.View.TheVariants as view
use Rattle.docket_rows.specs.Words.{Rows, opening_rows, setup_of, suspended_by}
use Rattle.docket_selection.specs.declared.calendars.JudgeCalendar.{JudgeCalendar}
use Rattle.docket_selection.specs.declared.choice.Choice.{Choice}
use Rattle.docket_selection.specs.Words.{chosen_calendars}
use Rattle.docket_selection.specs.declared.explained.explained.ExplainedDeadline.{ExplainedDeadline}
use Rattle.docket_selection.specs.declared.explained.explained.ExplainedSheet.{ExplainedSheet}
use Rattle.deadline_reasons.specs.declared.reason.Reason.{Reason}
use Rattle.reason_texts.specs.declared.course.Course.{Course}
use Rattle.reason_texts.specs.Words.{course_after, course_of, day_shown}
use Rattle.office_texts.specs.Words.{means_text, state_word}
use Rattle.row_forms.specs.declared.numbered.NumberedRow.{NumberedRow}
use Rattle.row_forms.specs.Words.{rows_of}
use Rattle.office_texts.specs.declared.run.reply.Reply.{Reply}
use Rattle.office_texts.specs.declared.run.reply.Reply.TheVariants.{Made, Viewed}
use Rattle.office_texts.specs.Run.Words.{docketed_after, docketed_then}
use Rattle.desk_numbers.specs.Words.{label_of, title_of}
use Rattle.report_texts.specs.Words.{LabelsView, numbered_calendar}
use Rattle.report_json.specs.declared.answers.AnsweredRow.{AnsweredRow}
use Rattle.report_json.specs.Answers.{answer_fields, answered_value, case_named, day_named, motion_named, refusal_fields, refusal_front, refusal_value, reply_fields, row_fields, view_fields}
use Rattle.report_json.specs.Bookings.{booked_fields, booking_fields, booking_value, calendar_fields, calendar_value, called_booking, called_booking_fields, labelled_booked}
use Rattle.report_json.specs.Cases.{called_case_fields, case_fields, label_fields, name_fields, title_fields}
use Rattle.report_json.specs.Deadlines.{deadline_fields, deadline_value, docketed_fields, end_of, ended_fields, event_value, filed_fields, filed_value, last_day_of, outcome_fields, shown_fields, shown_value, started_fields, suspended_fields}
use Rattle.report_json.specs.Document.{answers_from, court_value, court_fields, document_fields, document_value, office_fields, until_fields}
use Rattle.report_json.specs.Motions.{heard_fields, hearing_fields, hearing_value, labelled_motion, labelled_motion_fields, motion_fields, motion_value, notice_days_of, ruling_fields}
use Rattle.report_json.specs.Names.{judges_value, name_value, names_from}
use Rattle.report_json.specs.Periods.{code_of, day_of_grant, days_of_grant, days_of_length, entered_fields, entered_of, entered_value, extension_fields, grant_fields, grant_value, hours_of_grant, hours_of_length, order_fields, service_value}
use Rattle.report_json.specs.Reasons.{case_value, explained_fields, explained_sheet_fields, instant_shown, labelled_fields, labelled_value, reason_fields, reason_value, reason_values, why_fields}
use Rattle.report_json.specs.Sheets.{assigned_fields, closed_fields, lists_docketed, sheet_docketed, sheet_fields, sheet_value, standing_fields}
use Rattle.report_json.specs.Times.{day_value, happened_fields, instant_value}
use Rattle.report_json.specs.Values.{amount, field, or_null}
use Rattle.report_json.proofs.DepthLemmas.{AllWithin, FieldsWithin, append_within, array_within, deeper_within, happened_within, instant_within, list_within, name_within, nullable, object_within, span_within}

flat : 0 ≤ 0
flat = omega arith

extension_within : (g : Grant) → FieldsWithin 0 (extension_fields g)
extension_within g =
    (nullable amount 0 (λ _. flat) (days_of_grant g), (nullable amount 0 (λ _. flat) (hours_of_grant g), (nullable day_value 0 (λ _. flat) (day_of_grant g), tt)))

order_within : (g : Grant) → FieldsWithin 0 (order_fields g)
order_within (grant.ByDays n) = tt
order_within (grant.ByHours n) = tt
order_within (grant.Until day) = tt
order_within (grant.Reset day) = (flat, tt)
order_within (grant.ResetAt at) = (flat, (flat, tt))

grant_within : (g : Grant) → depth (grant_value g) ≤ 1
unfolding grant_value
grant_within g = object_within 0 (grant_fields g) (append_within 0 (extension_fields g) (order_fields g) (extension_within g) (order_within g))

entered_within : (e : Entered) → depth (entered_value e) ≤ 1
unfolding entered_value
entered_within e =
    object_within 0 (entered_fields e) (nullable amount 0 (λ _. flat) (days_of_length e.length), (nullable amount 0 (λ _. flat) (hours_of_length e.length), (flat, (flat, (flat, (flat, tt))))))

event_within : (zone : TimeZone) (e : EventView) → depth (event_value zone e) ≤ 1
unfolding event_value
event_within zone e = object_within 0 (happened_fields zone e.day e.minute) (happened_within zone e.day e.minute)

filed_within : (zone : TimeZone) (f : Filing) → depth (filed_value zone f) ≤ 1
unfolding filed_value
filed_within zone f =
    object_within 0 (filed_fields zone f)
    (append_within 0 (happened_fields zone f.day f.minute) (field (codes "means") (string (means_text f.means)) ∷ []) (happened_within zone f.day f.minute) (flat, tt))

shown_within : (zone : TimeZone) (end : Shown) → FieldsWithin 0 (shown_fields zone end)
shown_within zone end = (nullable day_value 0 (λ _. flat) (last_day_of end), (nullable (instant_value zone) 0 (instant_within zone) (end_of end), tt))

shown_object_within : (zone : TimeZone) (end : Shown) → depth (shown_value zone end) ≤ 1
unfolding shown_value
shown_object_within zone end = object_within 0 (shown_fields zone end) (shown_within zone end)

started_within : (zone : TimeZone) (row : DeadlineRowView) → FieldsWithin 2 (started_fields zone row)
unfolding started_fields
started_within zone row =
    let event = event_within zone row.event in
    let second = nullable day_value 2 (λ _. omega arith) row.second in
    let service = nullable service_value 2 (λ _. omega arith) row.service in
    let grants = array_within grant_value 1 grant_within row.grants in
    (omega arith, (second, (service, (omega arith, tt))))

docketed_within : (zone : TimeZone) (d : SheetDeadline) → FieldsWithin 2 (docketed_fields zone d)
unfolding docketed_fields
docketed_within zone d =
    let period = nullable string 2 (λ _. omega arith) (code_of d.row.period) in
    let entered = nullable entered_value 2 (λ e. let h = entered_within e in omega arith) (entered_of d.row.period) in
    (omega arith, (period, (entered, started_within zone d.row)))

suspended_within : (n : ℕ) (motion : Option ℕ) → FieldsWithin n (suspended_fields motion)
suspended_within n (Some motion) = (omega arith, tt)
suspended_within n None = tt

ended_within : (n : ℕ) (ended : Option Ending) → FieldsWithin n (ended_fields ended)
ended_within n (Some why) = (omega arith, suspended_within n (suspended_by why))
ended_within n None = tt

outcome_within : (zone : TimeZone) (d : SheetDeadline) → FieldsWithin 2 (outcome_fields zone d)
unfolding outcome_fields
outcome_within zone d =
    append_within 2 (shown_fields zone d.shown) (field (codes "state") (string (state_word d.state)) ∷ field (codes "filed") (or_null (filed_value zone) d.row.filed) ∷ ended_fields d.ended) (deeper_within 0 2 (shown_fields zone d.shown) (omega arith) (shown_within zone d.shown))
    (omega arith, (nullable (filed_value zone) 2 (λ f. let h = filed_within zone f in omega arith) d.row.filed, ended_within 2 d.ended))

deadline_within : (zone : TimeZone) (d : SheetDeadline) → depth (deadline_value zone d) ≤ 3
unfolding deadline_value
deadline_within zone d = object_within 2 (deadline_fields zone d) (append_within 2 (docketed_fields zone d) (outcome_fields zone d) (docketed_within zone d) (outcome_within zone d))

hearing_within : (court : CourtView) (h : SheetHearing) → depth (hearing_value court h) ≤ 2
unfolding hearing_value
hearing_within court h =
    let judges = array_within (name_value court.judges) 0 (λ j. nullable string 0 (λ _. flat) _) h.hearing.judges in
    let room = nullable string 1 (λ _. omega arith) (slice_get court.rooms h.hearing.room) in
    let affidavits = nullable day_value 1 (λ _. omega arith) h.affidavits in
    let span = deeper_within 0 1 _ (omega arith) (span_within court.clock.zone h.hearing.day h.hearing.first h.hearing.count) in
    object_within 1 (hearing_fields court h) (judges, (room, (omega arith, (affidavits, span))))

heard_within : (court : CourtView) (m : SheetMotion) → FieldsWithin 2 (heard_fields court m)
unfolding heard_fields
heard_within court m =
    (omega arith, (omega arith, (nullable amount 2 (λ _. omega arith) (notice_days_of m.need), (nullable (hearing_value court) 2 (hearing_within court) m.hearing, tt))))

ruling_within : (n : ℕ) (ruling : Option DatedRuling) → FieldsWithin n (ruling_fields ruling)
ruling_within n (Some r) = (omega arith, (omega arith, tt))
ruling_within n None = tt

entered_motion_within : (court : CourtView) (m : SheetMotion) → FieldsWithin 2 (motion_fields court m)
entered_motion_within court m = append_within 2 (heard_fields court m) (ruling_fields m.ruling) (heard_within court m) (ruling_within 2 m.ruling)

motion_within : (court : CourtView) (m : SheetMotion) → depth (motion_value court m) ≤ 3
unfolding motion_value
motion_within court m = object_within 2 (motion_fields court m) (entered_motion_within court m)

-- what rows call things
title_within : (n : ℕ) (title : List ℕ) → FieldsWithin n (title_fields title)
title_within n [] = tt
title_within n (b ∷ title) = (omega arith, tt)

label_within : (n : ℕ) (label : List ℕ) → FieldsWithin n (label_fields label)
label_within n [] = tt
label_within n (b ∷ label) = (omega arith, tt)

labelled_motion_within : (court : CourtView) (labels : LabelsView) (case : ℕ) (m : SheetMotion) → depth (labelled_motion court labels case m) ≤ 3
unfolding labelled_motion
labelled_motion_within court labels case m =
    let label = label_of labels.called case Motion m.number in
    object_within 2 (labelled_motion_fields court labels case m) (append_within 2 (motion_fields court m) (label_fields label) (entered_motion_within court m) (label_within 2 label))

-- the number of a case and its name, and its title
named_within : (n : ℕ) (named : List NamedCase) (case : ℕ) → FieldsWithin n (case_fields named case)
unfolding case_fields
named_within n named case = (omega arith, name_within n (name_of named case))

called_within : (n : ℕ) (labels : LabelsView) (case : ℕ) → FieldsWithin n (called_case_fields labels case)
called_within n labels case =
    append_within n (case_fields labels.cases case) (title_fields (title_of labels.called case)) (named_within n labels.cases case) (title_within n (title_of labels.called case))

closed_within : (n : ℕ) (closed : Option Closure) → FieldsWithin n (closed_fields closed)
closed_within n (Some c) = (omega arith, (omega arith, tt))
closed_within n None = tt

assigned_within : (n : ℕ) (court : CourtView) (assigned : Option Assignment) → FieldsWithin n (assigned_fields court assigned)
assigned_within n court (Some a) =
    let judge = nullable string n (λ _. omega arith) (slice_get court.judges a.judge) in
    let referred = nullable (name_value court.judges) n (λ j. nullable string n (λ _. omega arith) (slice_get court.judges j)) a.referred in
    (omega arith, (judge, (referred, tt)))
assigned_within n court None = tt

standing_within : (n : ℕ) (court : CourtView) (closed : Option Closure) (assigned : Option Assignment) → FieldsWithin n (standing_fields court closed assigned)
unfolding standing_fields
standing_within n court closed assigned =
    append_within n (closed_fields closed) (assigned_fields court assigned) (closed_within n closed) (assigned_within n court assigned)

lists_within : {D M : Type 0} (deadline : D → Json) (motion : M → Json) → ((d : D) → depth (deadline d) ≤ 3) → ((m : M) → depth (motion m) ≤ 3) → (deadlines : List D) (motions : List M) → FieldsWithin 4 (lists_docketed deadline motion deadlines motions)
unfolding lists_docketed
lists_within deadline motion deadlines_are motions_are deadlines motions = (array_within deadline 3 deadlines_are deadlines, (array_within motion 3 motions_are motions, tt))

sheet_docketed_within : {D M : Type 0} (deadline : D → Json) (motion : M → Json) → ((d : D) → depth (deadline d) ≤ 3) → ((m : M) → depth (motion m) ≤ 3) → (court : CourtView) (filed : ℤ) (closed : Option Closure) (assigned : Option Assignment) (deadlines : List D) (motions : List M)
    → FieldsWithin 4 (sheet_docketed deadline motion court filed closed assigned deadlines motions)
unfolding sheet_docketed
sheet_docketed_within deadline motion deadlines_are motions_are court filed closed assigned deadlines motions =
    (omega arith, append_within 4 (standing_fields court closed assigned) (lists_docketed deadline motion deadlines motions) (standing_within 4 court closed assigned) (lists_within deadline motion deadlines_are motions_are deadlines motions))

sheet_within : (court : CourtView) (named : List NamedCase) (s : Sheet) → depth (sheet_value court named s) ≤ 5
unfolding sheet_value
sheet_within court named s =
    object_within 4 (sheet_fields court named s)
    (append_within 4 (case_fields named s.case) (sheet_docketed (deadline_value court.clock.zone) (motion_value court) court s.filed s.closed s.assigned s.deadlines s.motions) (named_within 4 named s.case)
    (sheet_docketed_within (deadline_value court.clock.zone) (motion_value court) (deadline_within court.clock.zone) (motion_within court) court s.filed s.closed s.assigned s.deadlines s.motions))

reason_within : (clock : ClockView) (course : Course) (r : Reason) → depth (reason_value clock course r) ≤ 1
unfolding reason_value
reason_within clock course r =
    object_within 0 (reason_fields clock course r)
    (nullable day_value 0 (λ _. flat) (day_shown clock r), (nullable (instant_value clock.zone) 0 (instant_within clock.zone) (instant_shown r), (flat, (flat, tt))))

reasons_within : (clock : ClockView) (course : Course) (reasons : List Reason) → AllWithin 1 (reason_values clock course reasons)
unfolding reason_values
reasons_within clock course [] = tt
reasons_within clock course (r ∷ reasons) = (reason_within clock course r, reasons_within clock (course_after course r) reasons)

explained_within : (clock : ClockView) (e : ExplainedDeadline) → FieldsWithin 2 (explained_fields clock e)
explained_within clock e =
    append_within 2 (deadline_fields clock.zone e.deadline) (why_fields clock e) (append_within 2 (docketed_fields clock.zone e.deadline) (outcome_fields clock.zone e.deadline) (docketed_within clock.zone e.deadline) (outcome_within clock.zone e.deadline))
    (nullable (shown_value clock.zone) 2 (λ end. let h = shown_object_within clock.zone end in omega arith) e.other, (list_within 1 _ (reasons_within clock (course_of e.deadline.row.period) e.reasons.items), tt))

labelled_within : (clock : ClockView) (labels : LabelsView) (case : ℕ) (e : ExplainedDeadline) → depth (labelled_value clock labels case e) ≤ 3
unfolding labelled_value
labelled_within clock labels case e =
    let label = label_of labels.called case Deadline e.deadline.number in
    object_within 2 (labelled_fields clock labels case e) (append_within 2 (explained_fields clock e) (label_fields label) (explained_within clock e) (label_within 2 label))

case_within : (court : CourtView) (labels : LabelsView) (e : ExplainedSheet) → depth (case_value court labels e) ≤ 5
unfolding case_value
case_within court labels e =
    let deadline = labelled_value court.clock labels e.case in
    let motion = labelled_motion court labels e.case in
    object_within 4 (explained_sheet_fields court labels e)
    (append_within 4 (called_case_fields labels e.case) (sheet_docketed deadline motion court e.filed e.closed e.assigned e.deadlines.items e.motions) (called_within 4 labels e.case)
    (sheet_docketed_within deadline motion (labelled_within court.clock labels e.case) (labelled_motion_within court labels e.case) court e.filed e.closed e.assigned e.deadlines.items e.motions))

booking_within : (court : CourtView) (named : List NamedCase) (b : Booking) → depth (booking_value court named b) ≤ 1
unfolding booking_value booked_fields
booking_within court named b =
    object_within 0 (booking_fields court named b)
    (append_within 0 (case_fields named b.case) (booked_fields court b) (named_within 0 named b.case)
    (flat, (nullable string 0 (λ _. flat) _, span_within court.clock.zone b.day b.first b.count)))

called_booking_within : (court : CourtView) (labels : LabelsView) (b : Booking) → depth (called_booking court labels b) ≤ 1
unfolding called_booking booked_fields
called_booking_within court labels b =
    let label = label_of labels.called b.case Motion b.motion in
    object_within 0 (called_booking_fields court labels b)
    (append_within 0 (called_case_fields labels b.case) (labelled_booked court labels b) (called_within 0 labels b.case)
    (append_within 0 (booked_fields court b) (label_fields label) (flat, (nullable string 0 (λ _. flat) _, span_within court.clock.zone b.day b.first b.count)) (label_within 0 label)))

refusal_within : (named : List NamedCase) (r : Refusal) → depth (refusal_value named r) ≤ 1
unfolding refusal_value refusal_front
refusal_within named r =
    let name = name_fields (option_and_then (name_of named) (case_named r)) in
    object_within 0 (refusal_fields named r)
    (append_within 0 (refusal_front r ++ name) (field (codes "motion") (or_null amount (motion_named r)) ∷ [])
    (append_within 0 (refusal_front r) name
    (flat, (flat, (nullable day_value 0 (λ _. flat) (day_named r), (nullable amount 0 (λ _. flat) (case_named r), tt))))
    (name_within 0 (option_and_then (name_of named) (case_named r))))
    (nullable amount 0 (λ _. flat) (motion_named r), tt))

shown_deep : (zone : TimeZone) (end : Shown) → FieldsWithin 5 (shown_fields zone end)
shown_deep zone end = deeper_within 0 5 (shown_fields zone end) (omega arith) (shown_within zone end)

zero_five : 0 ≤ 5
zero_five = omega arith

refusal_deep : (named : List NamedCase) (r : Refusal) → depth (refusal_value named r) ≤ 5
refusal_deep named r = let h = refusal_within named r in omega arith

answer_within : (zone : TimeZone) (named : List NamedCase) (a : Answer) → FieldsWithin 5 (answer_fields zone named a)
unfolding answer_fields
answer_within zone named Opened = (zero_five, tt)
answer_within zone named (Started number end) = (zero_five, (zero_five, shown_deep zone end))
answer_within zone named (Filed timely) = (zero_five, (zero_five, tt))
answer_within zone named (Extended end) = (zero_five, shown_deep zone end)
answer_within zone named (Reset end) = (zero_five, shown_deep zone end)
answer_within zone named (MotionEntered number) = (zero_five, (zero_five, tt))
answer_within zone named Booked = (zero_five, tt)
answer_within zone named Moved = (zero_five, tt)
answer_within zone named Cancelled = (zero_five, tt)
answer_within zone named HolidayEntered = (zero_five, tt)
answer_within zone named OutageEntered = (zero_five, tt)
answer_within zone named Ended = (zero_five, tt)
answer_within zone named Closed = (zero_five, tt)
answer_within zone named Reopened = (zero_five, tt)
answer_within zone named (Ruled off) = (zero_five, (nullable day_value 5 (λ _. zero_five) off, tt))
answer_within zone named Assigned = (zero_five, tt)
answer_within zone named Titled = (zero_five, tt)
answer_within zone named Labelled = (zero_five, tt)
answer_within zone named (Resumed end) = (zero_five, shown_deep zone end)
answer_within zone named (Refused refusal) = (zero_five, (refusal_deep named refusal, tt))

view_within : (court : CourtView) (named : List NamedCase) (v : View) → FieldsWithin 5 (view_fields court named v)
unfolding view_fields
view_within court named (view.Sheet s) = (zero_five, (sheet_within court named s, tt))
view_within court named (view.Bookings bookings) =
    let h = array_within (booking_value court named) 1 (booking_within court named) bookings in (zero_five, (omega arith, tt))
view_within court named (view.Computed end) = (zero_five, shown_deep court.clock.zone end)
view_within court named (view.Refused refusal) = (zero_five, (refusal_deep named refusal, tt))

reply_within : (court : CourtView) (named : List NamedCase) (r : Reply) → FieldsWithin 5 (reply_fields court named r)
unfolding reply_fields
reply_within court named (Made answer) = answer_within court.clock.zone named answer
reply_within court named (Viewed v) = view_within court named v

row_within : (number clerk : ℕ) → FieldsWithin 5 (row_fields number clerk)
unfolding row_fields
row_within number clerk = (zero_five, (zero_five, tt))

answered_within : (court : CourtView) (named : List NamedCase) (r : AnsweredRow) → depth (answered_value court named r) ≤ 6
unfolding answered_value
answered_within court named r = object_within 5 _ (append_within 5 (row_fields r.number r.clerk) (reply_fields court named r.reply) (row_within r.number r.clerk) (reply_within court named r.reply))

pub answered_reads_within : (court : CourtView) (named : List NamedCase) (r : AnsweredRow) → depth (answered_value court named r) ≤ max_depth
answered_reads_within court named r = let h = answered_within court named r in omega arith

answers_within : (court : CourtView) (labels : LabelsView) (docketed : Rows) (rows : List NumberedRow) → AllWithin 6 (answers_from court labels docketed rows)
unfolding answers_from
answers_within court labels docketed [] = tt
answers_within court labels docketed (n ∷ rows) = (answered_within court labels.cases _, answers_within court labels (docketed_then (setup_of court) docketed n.row.work) rows)

judges_within : (court : CourtView) → depth (judges_value court) ≤ 1
unfolding names_from
judges_within court = array_within (name_value court.judges) 0 (λ j. nullable string 0 (λ _. flat) _) (range_with_len 0 (length court.judges))

until_within : (minute : Option ℕ) → FieldsWithin 1 (until_fields minute)
until_within (Some minute) = (omega arith, tt)
until_within None = tt

court_within : (court : CourtView) → depth (court_value court) ≤ 2
unfolding court_value
court_within court =
    object_within 1 (court_fields court)
    (append_within 1 (office_fields court) (until_fields court.clock.efiling_until) (omega arith, (omega arith, (omega arith, (omega arith, (judges_within court, tt))))) (until_within court.clock.efiling_until))

calendar_within : (court : CourtView) (labels : LabelsView) (c : JudgeCalendar) → depth (calendar_value court labels c) ≤ 3
unfolding calendar_value
calendar_within court labels c =
    object_within 2 (calendar_fields court labels c)
    (nullable string 2 (λ _. omega arith) _, (array_within (called_booking court labels) 1 (called_booking_within court labels) c.bookings, tt))

pub document_within : (court : CourtView) (labels : LabelsView) (choice : Choice) (rows : List NumberedRow) (sheets : List ExplainedSheet) → depth (document_value court labels choice rows sheets) ≤ max_depth
unfolding document_value
document_within court labels choice rows sheets =
    let docketed = docketed_after (setup_of court) (opening_rows (setup_of court)) (rows_of rows) in
    let here : depth (court_value court) ≤ 7 = let h = court_within court in omega arith in
    let answers = list_within 6 _ (answers_within court labels (opening_rows (setup_of court)) rows) in
    let cases = array_within (case_value court labels) 5 (case_within court labels) sheets in
    let calendars = array_within (calendar_value court labels) 3 (calendar_within court labels) (map (numbered_calendar labels.moved) (chosen_calendars (setup_of court) docketed choice)) in
    let whole = object_within 7 (document_fields court labels choice rows sheets) (here, (answers, (omega arith, (omega arith, tt)))) in
    omega arith
