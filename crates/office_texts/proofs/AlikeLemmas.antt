-- What is printed is the same by each value of one court.
use Rattle.std.proofs.Common.{◌≡◌, ◌++◌, ℕ, List, [], ◌∷◌, Option, Some, None, true, codes, decimal, refl, ap}
use Rattle.std.specs.List.{flat_map}
use Rattle.court_clock.specs.Words.{ClockView, IsSameCourtClock, day_text}
use Rattle.court_days.specs.Words.{CourtView, IsSameCourt}
use Rattle.court_clock.proofs.CallerLemmas.{civil_of_alike}
use Rattle.rule6.specs.declared.timeliness.Shown.{Shown}
use Rattle.rule6.specs.declared.timeliness.Shown.TheVariants as shown
use Rattle.hearing_slots.specs.declared.booking.Booking.{Booking}
use Rattle.docket_rows.specs.declared.answer.Answer.{Answer}
use Rattle.docket_rows.specs.declared.answer.Answer.TheVariants.{Started, Filed, Extended, Resumed, Reset}
use Rattle.docket_rows.specs.declared.fact.Assignment.{Assignment}
use Rattle.docket_rows.specs.declared.sheet.Sheet.{Sheet}
use Rattle.docket_rows.specs.declared.sheet.SheetDeadline.{SheetDeadline}
use Rattle.docket_rows.specs.declared.sheet.SheetHearing.{SheetHearing}
use Rattle.docket_rows.specs.declared.sheet.SheetMotion.{SheetMotion}
use Rattle.docket_rows.specs.declared.view.View.{View}
use Rattle.docket_rows.specs.declared.view.View.TheVariants as view
use Rattle.office_texts.specs.Answers.{answer_text}
use Rattle.office_texts.specs.Calendars.{booking_line, booking_lines, calendar_lines}
use Rattle.office_texts.specs.Periods.{period_text}
use Rattle.office_texts.specs.Sheets.{and_ruled_text, assigned_line, deadline_line, hearing_line_if_set, hearing_text, motion_lines, need_text, sheet_lines, state_text}
use Rattle.office_texts.specs.Shown.{end_text, shown_text}
use Rattle.office_texts.specs.Views.{view_lines}

-- by a clock
module _ (a b : ClockView) (same : IsSameCourtClock a b) where
  pub shown_text_alike : (end : Shown) → shown_text a end ≡ shown_text b end
  shown_text_alike (shown.Last day act) = refl
  shown_text_alike (shown.Until end) = ap end_text (civil_of_alike a.zone b.zone same.zone end)
  shown_text_alike shown.Beyond = refl

  -- no other answer shows a time, and one that is added and shows none has its proof in the last line
  pub answer_text_alike : (answer : Answer) → answer_text a answer ≡ answer_text b answer
  unfolding answer_text
  answer_text_alike (Started number end) = ap (λ t. codes "deadline " ++ decimal number ++ codes " " ++ t) (shown_text_alike end)
  answer_text_alike (Extended end) = ap (λ t. codes "extended " ++ t) (shown_text_alike end)
  answer_text_alike (Reset end) = ap (λ t. codes "reset " ++ t) (shown_text_alike end)
  answer_text_alike (Resumed end) = ap (λ t. codes "resumed " ++ t) (shown_text_alike end)
  answer_text_alike (Filed true) = refl
  answer_text_alike other = refl

  deadline_line_alike : (d : SheetDeadline) → deadline_line a d ≡ deadline_line b d
  unfolding deadline_line
  deadline_line_alike d =
      ap (λ t. codes "deadline " ++ decimal d.number ++ codes " " ++ period_text d.row.period ++ codes " " ++ t ++ codes " " ++ state_text d.state d.row.filed d.ended ++ 10 ∷ []) (shown_text_alike d.shown)

  deadline_lines_alike : (ds : List SheetDeadline) → flat_map (deadline_line a) ds ≡ flat_map (deadline_line b) ds
  deadline_lines_alike [] = refl
  deadline_lines_alike (d ∷ ds) = rw (deadline_line_alike d, deadline_lines_alike ds) refl

-- by a court
module _ (a b : CourtView) (same : IsSameCourt a b) where
  booking_line_alike : (booking : Booking) → booking_line a booking ≡ booking_line b booking
  unfolding booking_line
  booking_line_alike booking = rw same.rooms refl

  pub booking_lines_alike : (bookings : List Booking) → booking_lines a bookings ≡ booking_lines b bookings
  booking_lines_alike [] = refl
  booking_lines_alike (booking ∷ bookings) = rw (booking_line_alike booking, booking_lines_alike bookings) refl

  pub calendar_lines_alike : (judge : ℕ) (bookings : List Booking) → calendar_lines a judge bookings ≡ calendar_lines b judge bookings
  unfolding calendar_lines
  calendar_lines_alike judge bookings = rw (booking_lines_alike bookings, same.judges) refl

  hearing_text_alike : (h : SheetHearing) → hearing_text a h ≡ hearing_text b h
  unfolding hearing_text
  hearing_text_alike h = rw (same.judges, same.rooms) refl

  hearing_if_set_alike : (h : Option SheetHearing) → hearing_line_if_set a h ≡ hearing_line_if_set b h
  hearing_if_set_alike None = refl
  hearing_if_set_alike (Some h) = rw (hearing_text_alike h) refl

  motion_alike : (m : SheetMotion) → motion_lines a m ≡ motion_lines b m
  unfolding motion_lines
  motion_alike m =
      ap (λ t. codes "motion " ++ decimal m.number ++ codes " served " ++ day_text m.served ++ codes " need " ++ need_text m.need ++ and_ruled_text m.ruling ++ 10 ∷ t) (hearing_if_set_alike m.hearing)

  motions_alike : (ms : List SheetMotion) → flat_map (motion_lines a) ms ≡ flat_map (motion_lines b) ms
  motions_alike [] = refl
  motions_alike (m ∷ ms) = rw (motion_alike m, motions_alike ms) refl

  assigned_alike : (assigned : Option Assignment) → assigned_line a.judges assigned ≡ assigned_line b.judges assigned
  assigned_alike assigned = ap (λ (names : List (List ℕ)). assigned_line names assigned) same.judges

  pub sheet_lines_alike : (s : Sheet) → sheet_lines a s ≡ sheet_lines b s
  unfolding sheet_lines
  sheet_lines_alike s = rw (assigned_alike s.assigned, deadline_lines_alike a.clock b.clock same.clock s.deadlines, motions_alike s.motions) refl

  pub view_lines_alike : (v : View) → view_lines a v ≡ view_lines b v
  unfolding view_lines
  view_lines_alike (view.Sheet s) = ap (λ t. codes "sheet" ++ 10 ∷ t) (sheet_lines_alike s)
  view_lines_alike (view.Bookings bookings) = ap (λ t. codes "calendar" ++ 10 ∷ t) (booking_lines_alike bookings)
  view_lines_alike (view.Computed end) = ap (λ t. t ++ 10 ∷ []) (shown_text_alike a.clock b.clock same.clock end)
  view_lines_alike other = refl
