-- The holidays that a written file lists on a day. A Saturday and a Sunday are never listed: a holiday on them changes no
-- period, and what stands in its place beside the weekend is listed instead.
use Rattle.std.specs.Prelude.{ℤ, ◌||◌, Bool, true, false, is_some, Option, Some, None, if◌then◌else◌}
use Rattle.court_clock.specs.Words.{is_weekend}
use Rattle.court_holidays.specs.Federal.Words.{holiday_on, observed_on}
use Rattle.court_holidays.specs.declared.federal.statute.FederalHoliday.{FederalHoliday}
use Rattle.court_holidays.specs.States.Words.{state_holiday_on}
use Rattle.court_holidays.specs.declared.states.state.State.{State}
use Rattle.court_holidays.specs.declared.states.state.State.TheVariants.{DistrictOfColumbia}
use Rattle.court_holidays.specs.declared.states.listed.StateDay.{StateDay}

-- the first of two, or the second
abbrev pub or_else : {A : Type 0} → Option A → Option A → Option A
or_else (Some a) second = Some a
or_else None second = second

-- in the capital's region Inauguration Day is a federal holiday, 5 U.S.C. 6103(c)
abbrev pub is_in_capital : State → Bool
is_in_capital DistrictOfColumbia = true
is_in_capital state = false

-- the federal holiday listed on a day: the one that the law sets for it, or else the one that is observed on it
abbrev pub federal_on : State → ℤ → Option FederalHoliday
federal_on state d = if is_weekend d then None else or_else (holiday_on d (is_in_capital state)) (observed_on d)

-- the state's holiday listed on a day, if the federal list lacks the day
abbrev pub state_on : State → ℤ → Option StateDay
state_on state d =
    if is_weekend d || is_some (federal_on state d) then None else state_holiday_on state d
