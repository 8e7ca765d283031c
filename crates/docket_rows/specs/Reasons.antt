-- The refusals of a docket, with the number and the name of each.
use Rattle.std.specs.Prelude.{ℕ, List, codes}
use Rattle.rule_periods.specs.declared.refusal.PeriodRefusal.{PeriodRefusal}
use Rattle.rule_periods.specs.declared.refusal.PeriodRefusal.TheVariants as period
use Rattle.docket_rows.specs.declared.refusal.Refusal.{Refusal}
use Rattle.docket_rows.specs.declared.refusal.Refusal.TheVariants.{NoSuchCase, CaseIsOpen, NoSuchDeadline, NoSuchMotion, BadDay, BadLength, WrongService, Beyond, AlreadyMet, NotExtendable, NoGoodCause, LateWithoutMotion, LateWithoutNeglect, NotLonger, AlreadySet, NotSet, NotACourtDay, OutsideHours, ShortNotice, JudgeBusy, RoomBusy, AlreadyHoliday, HearingThatDay, NoticeLost, Full, NoSuchJudge, NoSuchRoom, WrongGrant, BadPanel, CaseIsClosed, NotClosed, HearingAhead, AlreadyEnded, NotEnded}

abbrev pub refusal_number : Refusal → ℕ
refusal_number NoSuchCase = 1
refusal_number CaseIsOpen = 2
refusal_number NoSuchDeadline = 3
refusal_number NoSuchMotion = 4
refusal_number BadDay = 5
refusal_number BadLength = 6
refusal_number WrongService = 7
refusal_number Beyond = 8
refusal_number AlreadyMet = 9
refusal_number NotExtendable = 10
refusal_number NoGoodCause = 11
refusal_number LateWithoutMotion = 12
refusal_number LateWithoutNeglect = 13
refusal_number NotLonger = 14
refusal_number AlreadySet = 15
refusal_number NotSet = 16
refusal_number NotACourtDay = 17
refusal_number OutsideHours = 18
refusal_number (ShortNotice latest) = 19
refusal_number (JudgeBusy case motion) = 20
refusal_number (RoomBusy case motion) = 21
refusal_number AlreadyHoliday = 22
refusal_number (HearingThatDay case motion) = 23
refusal_number (NoticeLost case motion) = 24
refusal_number Full = 25
refusal_number NoSuchJudge = 26
refusal_number NoSuchRoom = 27
refusal_number WrongGrant = 28
refusal_number BadPanel = 29
refusal_number CaseIsClosed = 30
refusal_number NotClosed = 31
refusal_number (HearingAhead case motion) = 32
refusal_number AlreadyEnded = 33
refusal_number NotEnded = 34

abbrev pub refusal_name : Refusal → List ℕ
refusal_name NoSuchCase = codes "NoSuchCase"
refusal_name CaseIsOpen = codes "CaseIsOpen"
refusal_name NoSuchDeadline = codes "NoSuchDeadline"
refusal_name NoSuchMotion = codes "NoSuchMotion"
refusal_name BadDay = codes "BadDay"
refusal_name BadLength = codes "BadLength"
refusal_name WrongService = codes "WrongService"
refusal_name Beyond = codes "Beyond"
refusal_name AlreadyMet = codes "AlreadyMet"
refusal_name NotExtendable = codes "NotExtendable"
refusal_name NoGoodCause = codes "NoGoodCause"
refusal_name LateWithoutMotion = codes "LateWithoutMotion"
refusal_name LateWithoutNeglect = codes "LateWithoutNeglect"
refusal_name NotLonger = codes "NotLonger"
refusal_name AlreadySet = codes "AlreadySet"
refusal_name NotSet = codes "NotSet"
refusal_name NotACourtDay = codes "NotACourtDay"
refusal_name OutsideHours = codes "OutsideHours"
refusal_name (ShortNotice latest) = codes "ShortNotice"
refusal_name (JudgeBusy case motion) = codes "JudgeBusy"
refusal_name (RoomBusy case motion) = codes "RoomBusy"
refusal_name AlreadyHoliday = codes "AlreadyHoliday"
refusal_name (HearingThatDay case motion) = codes "HearingThatDay"
refusal_name (NoticeLost case motion) = codes "NoticeLost"
refusal_name Full = codes "Full"
refusal_name NoSuchJudge = codes "NoSuchJudge"
refusal_name NoSuchRoom = codes "NoSuchRoom"
refusal_name WrongGrant = codes "WrongGrant"
refusal_name BadPanel = codes "BadPanel"
refusal_name CaseIsClosed = codes "CaseIsClosed"
refusal_name NotClosed = codes "NotClosed"
refusal_name (HearingAhead case motion) = codes "HearingAhead"
refusal_name AlreadyEnded = codes "AlreadyEnded"
refusal_name NotEnded = codes "NotEnded"

-- what the rules of periods refuse, the docket refuses
abbrev pub refusal_of : PeriodRefusal → Refusal
refusal_of period.BadDay = BadDay
refusal_of period.BadLength = BadLength
refusal_of period.WrongService = WrongService
refusal_of period.Beyond = Beyond
refusal_of period.NotExtendable = NotExtendable
refusal_of period.NoGoodCause = NoGoodCause
refusal_of period.LateWithoutMotion = LateWithoutMotion
refusal_of period.LateWithoutNeglect = LateWithoutNeglect
refusal_of period.NotLonger = NotLonger
refusal_of period.WrongGrant = WrongGrant
