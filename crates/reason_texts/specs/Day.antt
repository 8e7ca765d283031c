-- The day that a reason is about.
use Rattle.std.specs.Prelude.{ℕ, ◌==◌, ℤ, List, ◌++◌, Option, Some, None, codes, if◌then◌else◌}
use Rattle.court_clock.specs.Words.{ClockView, CivilTime, civil_of, day_text, weekday_of}
use Rattle.rule_periods.specs.declared.grant.Grant.{Grant}
use Rattle.rule_periods.specs.declared.grant.Grant.TheVariants.{ByDays, ByHours, Until, Reset, ResetAt}
use Rattle.deadline_reasons.specs.declared.reason.Reason.{Reason}
use Rattle.deadline_reasons.specs.declared.reason.Reason.TheVariants as reason

abbrev pub day_of_civil : Option CivilTime → Option ℤ
day_of_civil (Some at) = Some at.day
day_of_civil None = None

abbrev pub day_of_grant : Grant → Option ℤ
day_of_grant (Until day) = Some day
day_of_grant (Reset day) = Some day
day_of_grant (ResetAt at) = Some at.day
day_of_grant (ByDays n) = None
day_of_grant (ByHours h) = None

-- the day that a reason is about, where it is about one; an instant lies on the day that the court's clock shows
abbrev pub day_shown : ClockView → Reason → Option ℤ
day_shown clock (reason.Excluded day) = Some day
day_shown clock (reason.Set day) = Some day
day_shown clock (reason.Counted n day) = Some day
day_shown clock (reason.PassedOver day cause) = Some day
day_shown clock (reason.RunsTo day) = Some day
day_shown clock (reason.EndsOn day) = Some day
day_shown clock (reason.Continued day second) = Some day
day_shown clock (reason.UntilMidnight day) = Some day
day_shown clock (reason.UntilClosing day closes until) = Some day
day_shown clock (reason.SetAt instant) = day_of_civil (civil_of clock.zone instant)
day_shown clock (reason.HoursFrom instant) = day_of_civil (civil_of clock.zone instant)
day_shown clock (reason.HoursCounted h instant forward) = day_of_civil (civil_of clock.zone instant)
day_shown clock (reason.SameTime day instant) = day_of_civil (civil_of clock.zone instant)
day_shown clock (reason.UntilInstant instant) = day_of_civil (civil_of clock.zone instant)
day_shown clock (reason.Extended grant) = day_of_grant grant
day_shown clock (reason.NotExtended grant) = day_of_grant grant
day_shown clock (reason.Inaccessible outage) = Some outage.day
day_shown clock (reason.LastHour outage day second) = Some outage.day
day_shown clock (reason.ThreeAdded kind) = None
day_shown clock reason.NotCovered = None
day_shown clock reason.Beyond = None

-- weekdays are counted from 0 for Monday
abbrev pub weekday_name : ℕ → List ℕ
weekday_name n =
    if n == 0 then codes "Mon"
    else if n == 1 then codes "Tue"
    else if n == 2 then codes "Wed"
    else if n == 3 then codes "Thu"
    else if n == 4 then codes "Fri"
    else if n == 5 then codes "Sat"
    else codes "Sun"

-- `Tue 2025-09-02`, or as many spaces
abbrev pub day_column : Option ℤ → List ℕ
day_column (Some day) = weekday_name (weekday_of day) ++ codes " " ++ day_text day
day_column None = codes "              "
