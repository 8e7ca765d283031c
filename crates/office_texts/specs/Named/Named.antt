-- The text of replies in which cases have names: a case's name is written in place of its number.
use Rattle.std.specs.Prelude.{ℕ, List, [], ◌∷◌, ◌++◌, Option, Some, None, codes}
use Rattle.std.specs.Fmt.{decimal}
use Rattle.std.specs.List.{flat_map}
use Rattle.case_numbers.specs.Words.{case_text}
use Rattle.case_numbers.specs.declared.names.NamedCase.{NamedCase}
use Rattle.court_clock.specs.Words.{ClockView, day_text}
use Rattle.court_days.specs.Words.{CourtView}
use Rattle.hearing_slots.specs.declared.booking.Booking.{Booking}
use Rattle.docket_rows.specs.declared.answer.Answer.{Answer}
use Rattle.docket_rows.specs.declared.answer.Answer.TheVariants as answer
use Rattle.docket_rows.specs.declared.refusal.Refusal.{Refusal}
use Rattle.docket_rows.specs.declared.refusal.Refusal.TheVariants.{JudgeBusy, RoomBusy, HearingThatDay, NoticeLost, HearingAhead}
use Rattle.docket_rows.specs.declared.sheet.Sheet.{Sheet}
use Rattle.docket_rows.specs.declared.view.View.{View}
use Rattle.docket_rows.specs.declared.view.View.TheVariants as view
use Rattle.docket_rows.specs.Words.{refusal_number, refusal_name}
use Rattle.office_texts.specs.Words.{and_closed_text, answer_text, assigned_line, deadline_line, motion_lines, name_of, refusal_detail, span_text, view_lines}
use Rattle.office_texts.specs.Run.Words.{row_numbers}
use Rattle.office_texts.specs.declared.run.reply.Reply.{Reply}
use Rattle.office_texts.specs.declared.run.reply.Reply.TheVariants.{Made, Viewed}

-- what a motion is called: `case 1:25-cv-01234-ABC motion 2`
abbrev pub motion_called : List NamedCase → Option (ℕ × ℕ) → List ℕ
motion_called named (Some at) = codes "case " ++ case_text named at.0 ++ codes " motion " ++ decimal at.1
motion_called named None = []

-- a case and one of its motions
abbrev pub named_motion : List NamedCase → (case motion : ℕ) → List ℕ
named_motion named case motion = codes " " ++ case_text named case ++ codes " " ++ decimal motion

-- the day or the motion that a refusal names, if it names one
abbrev pub named_detail : List NamedCase → Refusal → List ℕ
named_detail named (JudgeBusy case motion) = named_motion named case motion
named_detail named (RoomBusy case motion) = named_motion named case motion
named_detail named (HearingThatDay case motion) = named_motion named case motion
named_detail named (NoticeLost case motion) = named_motion named case motion
named_detail named (HearingAhead case motion) = named_motion named case motion
named_detail named refusal = refusal_detail refusal

-- `15 JudgeBusy 1:25-cv-01234-ABC 2`
unfoldable pub named_refusal : List NamedCase → Refusal → List ℕ
named_refusal named refusal = decimal (refusal_number refusal) ++ codes " " ++ refusal_name refusal ++ named_detail named refusal

-- what a command is answered
abbrev pub named_answer : ClockView → List NamedCase → Answer → List ℕ
named_answer clock named (answer.Refused refusal) = codes "refused " ++ named_refusal named refusal
named_answer clock named made = answer_text clock made

-- `2025-09-15 10:30 2 case 1:25-cv-01234-ABC motion 1 room R1`
unfoldable pub named_booking : CourtView → List NamedCase → Booking → List ℕ
named_booking court named b =
    span_text b.day b.first b.count ++ codes " case " ++ case_text named b.case ++ codes " motion " ++ decimal b.motion ++ codes " room " ++ name_of court.rooms b.other ++ 10 ∷ []

-- the line `judge NAME`, and a line for each of the judge's bookings
unfoldable pub named_calendar : CourtView → List NamedCase → (judge : ℕ) → List Booking → List ℕ
named_calendar court named judge bookings = codes "judge " ++ name_of court.judges judge ++ 10 ∷ flat_map (named_booking court named) bookings

-- `case 1:25-cv-01234-ABC filed 2025-03-03`
abbrev pub named_case_line : List NamedCase → Sheet → List ℕ
named_case_line named s = codes "case " ++ case_text named s.case ++ codes " filed " ++ day_text s.filed ++ and_closed_text s.closed ++ (10 ∷ [])

-- the line of the case, then who has it, then its deadlines, then its motions
unfoldable pub named_sheet : CourtView → List NamedCase → Sheet → List ℕ
named_sheet court named s =
    named_case_line named s ++ assigned_line court.judges s.assigned ++ flat_map (deadline_line court.clock) s.deadlines ++ flat_map (motion_lines court) s.motions

-- what a query shows
abbrev pub named_view : CourtView → List NamedCase → View → List ℕ
named_view court named (view.Sheet s) = codes "sheet" ++ 10 ∷ named_sheet court named s
named_view court named (view.Bookings bookings) = codes "calendar" ++ 10 ∷ flat_map (named_booking court named) bookings
named_view court named (view.Computed end) = view_lines court (view.Computed end)
named_view court named (view.Refused refusal) = codes "refused " ++ named_refusal named refusal ++ 10 ∷ []

-- the text of a reply, with the ends of its lines
abbrev pub named_reply : CourtView → List NamedCase → Reply → List ℕ
named_reply court named (Made made) = named_answer court.clock named made ++ 10 ∷ []
named_reply court named (Viewed shown) = named_view court named shown

-- the reply to a row
unfoldable pub named_line_of : CourtView → List NamedCase → (number clerk : ℕ) → Reply → List ℕ
named_line_of court named number clerk reply = row_numbers number clerk ++ named_reply court named reply
