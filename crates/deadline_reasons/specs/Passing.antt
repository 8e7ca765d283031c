-- Which days are passed over where a day is looked for.
use Rattle.std.specs.Prelude.{◌≡◌, ℤ, pos, ◌+ℤ◌, Bool, true, false, nat_eq, Contains, List, Some, if◌then◌else◌}
use Rattle.std.specs.List.{find}
use Rattle.court_clock.specs.declared.direction.Direction.{Direction}
use Rattle.court_clock.specs.declared.direction.Direction.TheVariants.{After}
use Rattle.court_clock.specs.Words.{weekday_of, later_day}
use Rattle.court_days.specs.Words.{DaysView, OutageView, is_among, is_holiday, has_outage}
use Rattle.deadline_reasons.specs.declared.look.Look.{Look}
use Rattle.deadline_reasons.specs.declared.reason.Cause.{Cause}
use Rattle.deadline_reasons.specs.declared.reason.Cause.TheVariants.{Saturday, Sunday, FederalHoliday, StateHoliday, Inaccessible}

-- there is this cause to pass over the day
abbrev pub IsCause : DaysView → Look → ℤ → Cause → Type 0
-- weekdays are counted from 0 for Monday (Fed. R. Civ. P. 6(a)(1)(C))
IsCause c look d Saturday = weekday_of d ≡ 5
IsCause c look d Sunday = weekday_of d ≡ 6
-- 6(a)(6)(A), (B)
IsCause c look d FederalHoliday = is_among c.federal d ≡ true
-- 6(a)(6)(C): for a period measured after its event
IsCause c look d StateHoliday = (look.holidays ≡ After) × (is_among c.state d ≡ true)
-- 6(a)(3)
IsCause c look d Inaccessible = (look.accessible ≡ true) × (has_outage c d ≡ true)

-- Of several causes the one that is given: a Saturday or Sunday before a holiday, a federal holiday before one of the
-- state, and last that the clerk's office was inaccessible.
abbrev pub first_cause : DaysView → Look → ℤ → Cause
first_cause c look d =
    if nat_eq (weekday_of d) 5 then Saturday
    else if nat_eq (weekday_of d) 6 then Sunday
    else if is_among c.federal d then FederalHoliday
    else if is_holiday c look.holidays d then StateHoliday
    else Inaccessible

-- there is this cause to pass over the day, and it is the one that is given
abbrev pub IsFirstCause : DaysView → Look → ℤ → Cause → Type 0
IsFirstCause c look d cause = IsCause c look d cause × (first_cause c look d ≡ cause)

-- of several outages that pass a test the one that is given: the first that was entered
abbrev pub IsFirstOutage : (OutageView → Bool) → List OutageView → OutageView → Type 0
IsFirstOutage test outages outage = Contains outages outage × (find test outages ≡ Some outage)

-- the last day of a period is looked for away from its event, with the holidays of its direction (6(a)(1)(C), (5), (6))
abbrev pub away_from_event : Direction → Look
away_from_event direction = record { going = direction; holidays = direction; accessible = false }

-- an accessible day is looked for among later days (6(a)(3))
abbrev pub for_access : Direction → Look
for_access holidays = record { going = After; holidays = holidays; accessible = true }

-- the first covered day later than this one
abbrev pub day_later : DaysView → ℤ → ℤ
day_later c d = later_day (d +ℤ pos 1) c.from
