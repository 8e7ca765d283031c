-- The text of what a command is answered.
use Rattle.std.specs.Prelude.{List, [], ℕ, ℤ, true, false, ◌++◌, codes, Option, Some, None}
use Rattle.std.specs.Fmt.{decimal}
use Rattle.court_clock.specs.Words.{ClockView, day_text}
use Rattle.docket_rows.specs.declared.answer.Answer.{Answer}
use Rattle.docket_rows.specs.declared.answer.Answer.TheVariants.{Opened, Started, Filed, Extended, Reset, MotionEntered, Booked, Moved, Cancelled, HolidayEntered, OutageEntered, Ended, Resumed, Closed, Reopened, Ruled, Assigned, Titled, Labelled, Refused}
use Rattle.office_texts.specs.Refusals.{refusal_text}
use Rattle.office_texts.specs.Shown.{shown_text}

-- the hearing that a ruling took off the calendar, if it took one off
abbrev pub off_text : Option ℤ → List ℕ
off_text None = []
off_text (Some day) = codes ", hearing of " ++ day_text day ++ codes " cancelled"

unfoldable pub answer_text : ClockView → Answer → List ℕ
answer_text clock Opened = codes "opened"
answer_text clock (Started number end) = codes "deadline " ++ decimal number ++ codes " " ++ shown_text clock end
answer_text clock (Filed true) = codes "filed timely"
answer_text clock (Filed false) = codes "filed late"
answer_text clock (Extended end) = codes "extended " ++ shown_text clock end
answer_text clock (Reset end) = codes "reset " ++ shown_text clock end
answer_text clock (MotionEntered number) = codes "motion " ++ decimal number
answer_text clock Booked = codes "booked"
answer_text clock Moved = codes "moved"
answer_text clock Cancelled = codes "cancelled"
answer_text clock HolidayEntered = codes "holiday entered"
answer_text clock OutageEntered = codes "outage entered"
answer_text clock Ended = codes "ended"
answer_text clock Closed = codes "closed"
answer_text clock Reopened = codes "reopened"
answer_text clock (Ruled day) = codes "ruled" ++ off_text day
answer_text clock Assigned = codes "assigned"
answer_text clock Titled = codes "titled"
answer_text clock Labelled = codes "labelled"
answer_text clock (Resumed end) = codes "resumed " ++ shown_text clock end
answer_text clock (Refused refusal) = codes "refused " ++ refusal_text refusal
