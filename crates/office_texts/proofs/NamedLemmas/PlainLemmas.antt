-- Where no case has a name, replies are as they are without names.
use Rattle.std.proofs.Common.{◌≡◌, ◌++◌, ℕ, List, [], ◌∷◌, codes, refl, ap}
use Rattle.std.specs.Fmt.{decimal}
use Rattle.std.specs.List.{flat_map}
use Rattle.case_numbers.specs.Words.{case_text, name_of}
use Rattle.court_clock.specs.Words.{ClockView}
use Rattle.court_days.specs.Words.{CourtView}
use Rattle.hearing_slots.specs.declared.booking.Booking.{Booking}
use Rattle.docket_rows.specs.declared.answer.Answer.{Answer}
use Rattle.docket_rows.specs.declared.answer.Answer.TheVariants as answer
use Rattle.docket_rows.specs.declared.refusal.Refusal.{Refusal}
use Rattle.docket_rows.specs.declared.refusal.Refusal.TheVariants.{JudgeBusy, RoomBusy, HearingThatDay, NoticeLost, HearingAhead}
use Rattle.docket_rows.specs.declared.sheet.Sheet.{Sheet}
use Rattle.docket_rows.specs.declared.view.View.{View}
use Rattle.docket_rows.specs.declared.view.View.TheVariants as view
use Rattle.docket_rows.specs.Words.{refusal_name, refusal_number}
use Rattle.office_texts.specs.Words.{answer_text, booking_line, refusal_detail, refusal_text, sheet_lines, view_lines}
use Rattle.office_texts.specs.Run.Words.{line_of, reply_text, row_numbers}
use Rattle.office_texts.specs.declared.run.reply.Reply.{Reply}
use Rattle.office_texts.specs.declared.run.reply.Reply.TheVariants.{Made, Viewed}
use Rattle.office_texts.specs.Named.Laws.{WithoutNamesAsBefore}
use Rattle.office_texts.specs.Named.Named.{named_answer, named_booking, named_detail, named_line_of, named_refusal, named_reply, named_sheet, named_view}

number_alone : (number : ℕ) → case_text [] number ≡ decimal number
unfolding name_of
number_alone number = refl

same_detail : (refusal : Refusal) → named_detail [] refusal ≡ refusal_detail refusal
unfolding name_of
same_detail (JudgeBusy case motion) = refl
same_detail (RoomBusy case motion) = refl
same_detail (HearingThatDay case motion) = refl
same_detail (NoticeLost case motion) = refl
same_detail (HearingAhead case motion) = refl
same_detail refusal = refl

same_refusal : (refusal : Refusal) → named_refusal [] refusal ≡ refusal_text refusal
unfolding named_refusal refusal_text
same_refusal refusal = ap (λ (l : List ℕ). decimal (refusal_number refusal) ++ codes " " ++ refusal_name refusal ++ l) (same_detail refusal)

same_answer : (clock : ClockView) (made : Answer) → named_answer clock [] made ≡ answer_text clock made
unfolding answer_text
same_answer clock (answer.Refused refusal) = ap (λ (l : List ℕ). codes "refused " ++ l) (same_refusal refusal)
same_answer clock made = refl

same_booking : (court : CourtView) (booking : Booking) → named_booking court [] booking ≡ booking_line court booking
unfolding named_booking booking_line name_of
same_booking court booking = refl

same_bookings : (court : CourtView) (bookings : List Booking) → flat_map (named_booking court []) bookings ≡ flat_map (booking_line court) bookings
same_bookings court [] = refl
same_bookings court (booking ∷ bookings) = rw (same_booking court booking, same_bookings court bookings) refl

same_sheet : (court : CourtView) (sheet : Sheet) → named_sheet court [] sheet ≡ sheet_lines court sheet
unfolding named_sheet sheet_lines name_of
same_sheet court sheet = refl

same_view : (court : CourtView) (shown : View) → named_view court [] shown ≡ view_lines court shown
unfolding view_lines
same_view court (view.Sheet sheet) = ap (λ (l : List ℕ). codes "sheet" ++ 10 ∷ l) (same_sheet court sheet)
same_view court (view.Bookings bookings) = ap (λ (l : List ℕ). codes "calendar" ++ 10 ∷ l) (same_bookings court bookings)
same_view court (view.Computed end) = refl
same_view court (view.Refused refusal) = ap (λ (l : List ℕ). codes "refused " ++ l ++ 10 ∷ []) (same_refusal refusal)

pub same_reply : (court : CourtView) (reply : Reply) → named_reply court [] reply ≡ reply_text court reply
same_reply court (Made made) = ap (λ (l : List ℕ). l ++ 10 ∷ []) (same_answer court.clock made)
same_reply court (Viewed shown) = same_view court shown

-- the law
pub without_names_as_before_lem : WithoutNamesAsBefore
unfolding named_line_of line_of
without_names_as_before_lem court number clerk reply = ap (λ (l : List ℕ). row_numbers number clerk ++ l) (same_reply court reply)
