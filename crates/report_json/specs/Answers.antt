-- What rows are answered.
use Rattle.std.specs.Prelude.{ℕ, ℤ, List, [], ◌∷◌, ◌++◌, map, Option, Some, None, codes}
use Rattle.std.specs.Option.{option_and_then}
use Rattle.json.specs.Json.{Json, boolean, string}
use Rattle.jiff_tz.specs.declared.timezone.TimeZone.{TimeZone}
use Rattle.case_numbers.specs.Words.{name_of}
use Rattle.case_numbers.specs.declared.names.NamedCase.{NamedCase}
use Rattle.court_days.specs.Words.{CourtView}
use Rattle.rule6.specs.declared.timeliness.Shown.{Shown}
use Rattle.hearing_slots.specs.declared.booking.Booking.{Booking}
use Rattle.docket_rows.specs.declared.answer.Answer.{Answer}
use Rattle.docket_rows.specs.declared.answer.Answer.TheVariants.{Opened, Started, Filed, Extended, Reset, MotionEntered, Booked, Moved, Cancelled, HolidayEntered, OutageEntered, Ended, Resumed, Closed, Reopened, Ruled, Assigned, Titled, Labelled, Refused}
use Rattle.docket_rows.specs.declared.refusal.Refusal.{Refusal}
use Rattle.docket_rows.specs.declared.refusal.Refusal.TheVariants.{ShortNotice, JudgeBusy, RoomBusy, HearingThatDay, NoticeLost, HearingAhead}
use Rattle.docket_rows.specs.declared.view.View.{View}
use Rattle.docket_rows.specs.declared.view.View.TheVariants as view
use Rattle.docket_rows.specs.Words.{refusal_name, refusal_number}
use Rattle.office_texts.specs.declared.run.reply.Reply.{Reply}
use Rattle.office_texts.specs.declared.run.reply.Reply.TheVariants.{Made, Viewed}
use Rattle.report_json.specs.declared.answers.AnsweredRow.{AnsweredRow}
use Rattle.report_json.specs.Bookings.{booking_value}
use Rattle.report_json.specs.Cases.{name_fields}
use Rattle.report_json.specs.Deadlines.{shown_fields}
use Rattle.report_json.specs.Sheets.{sheet_value}
use Rattle.report_json.specs.Times.{day_value}
use Rattle.report_json.specs.Values.{Field, array_of, amount, field, object_of, or_null}

-- the day, the case and the motion that a refusal names, if it names them
abbrev pub day_named : Refusal → Option ℤ
day_named (ShortNotice latest) = Some latest
day_named _ = None

abbrev pub case_named : Refusal → Option ℕ
case_named (JudgeBusy case motion) = Some case
case_named (RoomBusy case motion) = Some case
case_named (HearingThatDay case motion) = Some case
case_named (NoticeLost case motion) = Some case
case_named (HearingAhead case motion) = Some case
case_named _ = None

abbrev pub motion_named : Refusal → Option ℕ
motion_named (JudgeBusy case motion) = Some motion
motion_named (RoomBusy case motion) = Some motion
motion_named (HearingThatDay case motion) = Some motion
motion_named (NoticeLost case motion) = Some motion
motion_named (HearingAhead case motion) = Some motion
motion_named _ = None

-- a refusal: its number, its name, and what it names
unfoldable pub refusal_front : Refusal → List Field
refusal_front r =
    field (codes "number") (amount (refusal_number r))
    ∷ field (codes "name") (string (refusal_name r))
    ∷ field (codes "day") (or_null day_value (day_named r))
    ∷ field (codes "case") (or_null amount (case_named r))
    ∷ []

abbrev pub refusal_fields : List NamedCase → Refusal → List Field
refusal_fields named r =
    refusal_front r ++ name_fields (option_and_then (name_of named) (case_named r)) ++ field (codes "motion") (or_null amount (motion_named r)) ∷ []

unfoldable pub refusal_value : List NamedCase → Refusal → Json
refusal_value named r = object_of (refusal_fields named r)

-- of which kind an answer is
abbrev pub kind : (word : List ℕ) → Field
kind word = field (codes "kind") (string word)

abbrev pub refused_fields : List NamedCase → Refusal → List Field
refused_fields named r = kind (codes "refused") ∷ field (codes "refusal") (refusal_value named r) ∷ []

-- a deadline was given that number, and when its time ends
abbrev pub started_fields : TimeZone → (number : ℕ) → Shown → List Field
started_fields zone number end = kind (codes "deadline") ∷ field (codes "number") (amount number) ∷ shown_fields zone end

-- the bookings of a judge on a day
abbrev pub day_fields : CourtView → List NamedCase → List Booking → List Field
day_fields court named bookings = kind (codes "calendar") ∷ field (codes "bookings") (array_of (map (booking_value court named) bookings)) ∷ []

-- what a command is answered
unfoldable pub answer_fields : TimeZone → List NamedCase → Answer → List Field
answer_fields zone named Opened = kind (codes "opened") ∷ []
answer_fields zone named (Started number end) = started_fields zone number end
answer_fields zone named (Filed timely) = kind (codes "filed") ∷ field (codes "timely") (boolean timely) ∷ []
answer_fields zone named (Extended end) = kind (codes "extended") ∷ shown_fields zone end
answer_fields zone named (Reset end) = kind (codes "reset") ∷ shown_fields zone end
answer_fields zone named (MotionEntered number) = kind (codes "motion") ∷ field (codes "number") (amount number) ∷ []
answer_fields zone named Booked = kind (codes "booked") ∷ []
answer_fields zone named Moved = kind (codes "moved") ∷ []
answer_fields zone named Cancelled = kind (codes "cancelled") ∷ []
answer_fields zone named HolidayEntered = kind (codes "holiday") ∷ []
answer_fields zone named OutageEntered = kind (codes "outage") ∷ []
answer_fields zone named Ended = kind (codes "ended") ∷ []
answer_fields zone named Closed = kind (codes "closed") ∷ []
answer_fields zone named Reopened = kind (codes "reopened") ∷ []
answer_fields zone named (Ruled off) = kind (codes "ruled") ∷ field (codes "hearing_cancelled") (or_null day_value off) ∷ []
answer_fields zone named Assigned = kind (codes "assigned") ∷ []
answer_fields zone named Titled = kind (codes "titled") ∷ []
answer_fields zone named Labelled = kind (codes "labelled") ∷ []
answer_fields zone named (Resumed end) = kind (codes "resumed") ∷ shown_fields zone end
answer_fields zone named (Refused refusal) = refused_fields named refusal

-- what a query shows
unfoldable pub view_fields : CourtView → List NamedCase → View → List Field
view_fields court named (view.Sheet s) = kind (codes "sheet") ∷ field (codes "sheet") (sheet_value court named s) ∷ []
view_fields court named (view.Bookings bookings) = day_fields court named bookings
view_fields court named (view.Computed end) = kind (codes "computed") ∷ shown_fields court.clock.zone end
view_fields court named (view.Refused refusal) = refused_fields named refusal

unfoldable pub reply_fields : CourtView → List NamedCase → Reply → List Field
reply_fields court named (Made answer) = answer_fields court.clock.zone named answer
reply_fields court named (Viewed v) = view_fields court named v

-- the number of a row, counted from 1, and that of its clerk
unfoldable pub row_fields : (number clerk : ℕ) → List Field
row_fields number clerk = field (codes "row") (amount number) ∷ field (codes "clerk") (amount clerk) ∷ []

-- a row, and what it was answered
abbrev pub answered_fields : CourtView → List NamedCase → AnsweredRow → List Field
answered_fields court named r = row_fields r.number r.clerk ++ reply_fields court named r.reply

unfoldable pub answered_value : CourtView → List NamedCase → AnsweredRow → Json
answered_value court named r = object_of (answered_fields court named r)
