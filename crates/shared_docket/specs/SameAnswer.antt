-- When two answers are the same.
use Rattle.std.specs.Prelude.{◌==◌, ℤ, Bool, true, false, ◌&&◌, Option, Some, None}
use Rattle.std.specs.Ordering.{int_eq}
use Rattle.rule6.specs.declared.timeliness.Act.{Act}
use Rattle.rule6.specs.declared.timeliness.Act.TheVariants as act
use Rattle.rule6.specs.declared.timeliness.Shown.{Shown}
use Rattle.rule6.specs.declared.timeliness.Shown.TheVariants as shown
use Rattle.docket_rows.specs.declared.answer.Answer.{Answer}
use Rattle.docket_rows.specs.declared.answer.Answer.TheVariants.{Opened, Started, Filed, Extended, Reset, MotionEntered, Booked, Moved, Cancelled, HolidayEntered, OutageEntered, Ended, Resumed, Closed, Reopened, Ruled, Assigned, Titled, Labelled, Refused}
use Rattle.docket_rows.specs.declared.refusal.Refusal.{Refusal}
use Rattle.docket_rows.specs.declared.refusal.Refusal.TheVariants.{NoSuchCase, CaseIsOpen, NoSuchDeadline, NoSuchMotion, BadDay, BadLength, WrongService, Beyond, AlreadyMet, NotExtendable, NoGoodCause, LateWithoutMotion, LateWithoutNeglect, NotLonger, AlreadySet, NotSet, NotACourtDay, OutsideHours, ShortNotice, JudgeBusy, RoomBusy, AlreadyHoliday, HearingThatDay, NoticeLost, Full, NoSuchJudge, NoSuchRoom, WrongGrant, BadPanel, CaseIsClosed, NotClosed, HearingAhead, AlreadyEnded, NotEnded}

abbrev pub same_act : (x y : Act) → Bool
same_act act.Filing act.Filing = true
same_act act.Service act.Service = true
same_act _ _ = false

abbrev pub same_shown : (x y : Shown) → Bool
same_shown (shown.Last day act) (shown.Last other too) = int_eq day other && same_act act too
same_shown (shown.Until end) (shown.Until other) = int_eq end other
same_shown shown.Beyond shown.Beyond = true
same_shown _ _ = false

abbrev pub same_truth : (x y : Bool) → Bool
same_truth true true = true
same_truth false false = true
same_truth _ _ = false

abbrev pub same_day : (x y : Option ℤ) → Bool
same_day None None = true
same_day (Some day) (Some other) = int_eq day other
same_day _ _ = false

abbrev pub same_refusal : (x y : Refusal) → Bool
same_refusal NoSuchCase NoSuchCase = true
same_refusal CaseIsOpen CaseIsOpen = true
same_refusal NoSuchDeadline NoSuchDeadline = true
same_refusal NoSuchMotion NoSuchMotion = true
same_refusal BadDay BadDay = true
same_refusal BadLength BadLength = true
same_refusal WrongService WrongService = true
same_refusal Beyond Beyond = true
same_refusal AlreadyMet AlreadyMet = true
same_refusal NotExtendable NotExtendable = true
same_refusal NoGoodCause NoGoodCause = true
same_refusal LateWithoutMotion LateWithoutMotion = true
same_refusal LateWithoutNeglect LateWithoutNeglect = true
same_refusal NotLonger NotLonger = true
same_refusal AlreadySet AlreadySet = true
same_refusal NotSet NotSet = true
same_refusal NotACourtDay NotACourtDay = true
same_refusal OutsideHours OutsideHours = true
same_refusal (ShortNotice latest) (ShortNotice other) = int_eq latest other
same_refusal (JudgeBusy case motion) (JudgeBusy other too) = case == other && motion == too
same_refusal (RoomBusy case motion) (RoomBusy other too) = case == other && motion == too
same_refusal AlreadyHoliday AlreadyHoliday = true
same_refusal (HearingThatDay case motion) (HearingThatDay other too) = case == other && motion == too
same_refusal (NoticeLost case motion) (NoticeLost other too) = case == other && motion == too
same_refusal Full Full = true
same_refusal NoSuchJudge NoSuchJudge = true
same_refusal NoSuchRoom NoSuchRoom = true
same_refusal WrongGrant WrongGrant = true
same_refusal BadPanel BadPanel = true
same_refusal CaseIsClosed CaseIsClosed = true
same_refusal NotClosed NotClosed = true
same_refusal (HearingAhead case motion) (HearingAhead other too) = case == other && motion == too
same_refusal AlreadyEnded AlreadyEnded = true
same_refusal NotEnded NotEnded = true
same_refusal _ _ = false

abbrev pub same_answer : (x y : Answer) → Bool
same_answer Opened Opened = true
same_answer (Started number ends) (Started other too) = number == other && same_shown ends too
same_answer (Filed timely) (Filed other) = same_truth timely other
same_answer (Extended ends) (Extended other) = same_shown ends other
same_answer (Reset ends) (Reset other) = same_shown ends other
same_answer (MotionEntered number) (MotionEntered other) = number == other
same_answer Booked Booked = true
same_answer Moved Moved = true
same_answer Cancelled Cancelled = true
same_answer HolidayEntered HolidayEntered = true
same_answer OutageEntered OutageEntered = true
same_answer Ended Ended = true
same_answer Closed Closed = true
same_answer Reopened Reopened = true
same_answer (Ruled day) (Ruled other) = same_day day other
same_answer Assigned Assigned = true
same_answer Titled Titled = true
same_answer Labelled Labelled = true
same_answer (Resumed ends) (Resumed other) = same_shown ends other
same_answer (Refused refusal) (Refused other) = same_refusal refusal other
same_answer _ _ = false
