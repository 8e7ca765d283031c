-- What happened, in words.
use Rattle.std.specs.Prelude.{ℕ, ◌/◌, ◌==◌, ℤ, pos, int_lt, unsigned_abs, List, [], ◌++◌, Option, Some, None, codes, if◌then◌else◌}
use Rattle.std.specs.Fmt.{decimal}
use Rattle.std.specs.Ordering.{int_eq}
use Rattle.court_clock.specs.declared.direction.Direction.{Direction}
use Rattle.court_clock.specs.declared.direction.Direction.TheVariants.{After, Before}
use Rattle.court_clock.specs.Words.{ClockView, civil_of}
use Rattle.court_days.specs.Words.{OutageView}
use Rattle.rule_periods.specs.declared.grant.Grant.{Grant}
use Rattle.rule_periods.specs.declared.grant.Grant.TheVariants.{ByDays, ByHours, Until, Reset, ResetAt}
use Rattle.rule6.specs.declared.service.ServiceKind.{ServiceKind}
use Rattle.rule6.specs.declared.service.ServiceKind.TheVariants.{HandA, LeftB, MailC, ClerkD, ElectronicE, OtherF}
use Rattle.deadline_reasons.specs.declared.reason.Cause.{Cause}
use Rattle.deadline_reasons.specs.declared.reason.Cause.TheVariants as cause
use Rattle.deadline_reasons.specs.declared.reason.Reason.{Reason}
use Rattle.deadline_reasons.specs.declared.reason.Reason.TheVariants as reason
use Rattle.reason_texts.specs.Names.{NamedDay, federal_name, legal_text, name_on}
use Rattle.reason_texts.specs.Times.{day_end_time, minute_time, time_of_civil}

abbrev pub cause_text : Cause → List ℕ
cause_text cause.Saturday = codes "Saturday"
cause_text cause.Sunday = codes "Sunday"
cause_text cause.FederalHoliday = codes "legal holiday"
cause_text cause.StateHoliday = codes "legal holiday of the state"
cause_text cause.Inaccessible = codes "inaccessible"

-- the name that a court's file gives a holiday, where it gives one; other causes have none
abbrev pub name_of_cause : List NamedDay → ℤ → Cause → Option (List ℕ)
name_of_cause names day cause.FederalHoliday = name_on names day
name_of_cause names day cause.StateHoliday = name_on names day
name_of_cause names day cause = None

-- a cause without such a name: a day of the federal list is called as the law calls it, any other cause by its kind
abbrev pub cause_unnamed : ℤ → Cause → List ℕ
cause_unnamed day cause.FederalHoliday = legal_text day
cause_unnamed day cause = cause_text cause

-- a cause to which the court's file gives this name
abbrev pub cause_named : ℤ → Cause → (name : List ℕ) → List ℕ
cause_named day cause.FederalHoliday name = federal_name day name
cause_named day cause name = name

-- a cause with this name, or with none
abbrev pub cause_called : ℤ → Cause → (name : Option (List ℕ)) → List ℕ
cause_called day cause (Some name) = cause_named day cause name
cause_called day cause None = cause_unnamed day cause

-- a cause by the name that the court's file gives it, or else as it is called without one
abbrev pub cause_shown : List NamedDay → ℤ → Cause → List ℕ
cause_shown names day cause = cause_called day cause (name_of_cause names day cause)

-- how a paper was served, by the paragraphs of Rule 5(b)(2)
abbrev pub kind_text : ServiceKind → List ℕ
kind_text HandA = codes "by hand"
kind_text LeftB = codes "at office or home"
kind_text MailC = codes "by mail"
kind_text ClerkD = codes "by leaving with the clerk"
kind_text ElectronicE = codes "electronically"
kind_text OtherF = codes "by other means"

-- `1 day`, `2 days`
abbrev pub days_or_hours : ℕ → (one many : List ℕ) → List ℕ
days_or_hours n one many = decimal n ++ (if n == 1 then one else many)

-- what is done: the time is extended, or an order sets another end
abbrev pub grant_words : Grant → List ℕ
grant_words (ByDays n) = codes "extended "
grant_words (ByHours h) = codes "extended "
grant_words (Until day) = codes "extended "
grant_words (Reset day) = codes "reset "
grant_words (ResetAt at) = codes "reset "

-- what isn't done, where the end is of another kind than the period
abbrev pub ungranted_words : Grant → List ℕ
ungranted_words (ByDays n) = codes "not extended "
ungranted_words (ByHours h) = codes "not extended "
ungranted_words (Until day) = codes "not extended "
ungranted_words (Reset day) = codes "not reset "
ungranted_words (ResetAt at) = codes "not reset "

-- to which time of the day an order sets the end
abbrev pub time_set : (minute : ℕ) → List ℕ
time_set minute = codes "to " ++ minute_time minute ++ codes " of this day by an order"

-- the date to which a time is extended or reset is in the column before it
abbrev pub grant_text : Grant → List ℕ
grant_text (ByDays n) = codes "by " ++ days_or_hours n (codes " day") (codes " days")
grant_text (ByHours h) = codes "by " ++ days_or_hours h (codes " hour") (codes " hours")
grant_text (Until day) = codes "to this day"
grant_text (Reset day) = codes "to this day by an order"
grant_text (ResetAt at) = time_set at.minute

-- That the clocks were set forward or back meanwhile. The number is that of the seconds by which the clock is further
-- ahead at the end of the hours than where they begin. Hours before an event end earlier than they begin.
abbrev pub change_words : Direction → ℤ → List ℕ
change_words After forward = if int_lt (pos 0) forward then codes ", clocks forward " else codes ", clocks back "
change_words Before forward = if int_lt (pos 0) forward then codes ", clocks back " else codes ", clocks forward "

-- by how many whole minutes the clocks were changed, if they were
abbrev pub change_text : Direction → ℤ → List ℕ
change_text direction forward =
    if int_eq forward (pos 0) then [] else change_words direction forward ++ decimal (unsigned_abs forward / 60) ++ codes " min"

-- `72, at 09:23:00, clocks back 60 min`
abbrev pub hours_text : ClockView → Direction → (hours : ℕ) → (end forward : ℤ) → List ℕ
hours_text clock direction hours end forward =
    decimal hours ++ codes ", at " ++ time_of_civil (civil_of clock.zone end) ++ change_text direction forward

-- the first minute of an outage, and the first one after it
abbrev pub outage_text : OutageView → List ℕ
outage_text outage = minute_time outage.from ++ codes " to " ++ minute_time outage.to

-- `17:00, e-filing to midnight`: the first time is when the clerk's office is scheduled to close
abbrev pub end_times : (closes : ℕ) → (until : Option ℕ) → List ℕ
end_times closes until = minute_time closes ++ codes ", e-filing to " ++ day_end_time until

-- the words that a reason begins with
abbrev pub first_words : Reason → List ℕ
first_words (reason.Excluded day) = codes "day of the event, excluded"
first_words (reason.Set day) = codes "set for this day by an order"
first_words (reason.SetAt instant) = codes "set by an order for "
first_words (reason.Counted n day) = codes "day "
first_words (reason.PassedOver day cause) = []
first_words (reason.RunsTo day) = codes "the time runs to this day"
first_words (reason.ThreeAdded kind) = codes "3 days added, served "
first_words (reason.Extended grant) = grant_words grant
first_words (reason.NotExtended grant) = ungranted_words grant
first_words (reason.HoursFrom instant) = codes "the event, at "
first_words (reason.HoursCounted h instant forward) = codes "hour "
first_words (reason.EndsOn day) = codes "the hours end on this day"
first_words (reason.Continued day second) = codes "the hours end, and are continued"
first_words (reason.SameTime day instant) = codes "the same time, "
first_words (reason.Inaccessible outage) = codes "clerk's office inaccessible "
first_words (reason.LastHour outage day second) = codes "clerk's office inaccessible "
first_words (reason.UntilMidnight day) = codes "last day, to midnight"
first_words (reason.UntilClosing day closes until) = codes "last day, to "
first_words (reason.UntilInstant instant) = codes "the time ends at "
first_words reason.NotCovered = codes "a day that is needed isn't covered"
first_words reason.Beyond = codes "beyond the days covered"

-- what is particular to a reason: how many days, which cause, what time
abbrev pub detail_text : ClockView → List NamedDay → Direction → Reason → List ℕ
detail_text clock names direction (reason.Counted n day) = decimal n
detail_text clock names direction (reason.PassedOver day cause) = cause_shown names day cause
detail_text clock names direction (reason.ThreeAdded kind) = kind_text kind
detail_text clock names direction (reason.Extended grant) = grant_text grant
detail_text clock names direction (reason.NotExtended grant) = grant_text grant
detail_text clock names direction (reason.SetAt instant) = time_of_civil (civil_of clock.zone instant)
detail_text clock names direction (reason.HoursFrom instant) = time_of_civil (civil_of clock.zone instant)
detail_text clock names direction (reason.HoursCounted h instant forward) = hours_text clock direction h instant forward
detail_text clock names direction (reason.SameTime day instant) = time_of_civil (civil_of clock.zone instant)
detail_text clock names direction (reason.Inaccessible outage) = outage_text outage
detail_text clock names direction (reason.LastHour outage day second) = outage_text outage
detail_text clock names direction (reason.UntilClosing day closes until) = end_times closes until
detail_text clock names direction (reason.UntilInstant instant) = time_of_civil (civil_of clock.zone instant)
detail_text clock names direction r = []

-- the words that it ends with
abbrev pub last_words : Reason → List ℕ
last_words (reason.Counted n day) = codes ", every day counted"
last_words (reason.PassedOver day cause) = codes ", passed over"
last_words r = []

-- what happened, where the days of holidays have these names and hours are counted in this direction
unfoldable pub what_text : ClockView → List NamedDay → Direction → Reason → List ℕ
what_text clock names direction r = first_words r ++ detail_text clock names direction r ++ last_words r
