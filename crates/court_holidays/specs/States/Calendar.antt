-- The holiday of a state that a day is.
use Rattle.std.specs.Prelude.{ℤ, Bool, Option}
use Rattle.std.specs.List.{find}
use Rattle.jiff_tz.specs.Year.{year_of_day}
use Rattle.court_holidays.specs.Federal.Words.{is_day}
use Rattle.court_holidays.specs.States.Kept.{kept_in, set_in}
use Rattle.court_holidays.specs.States.Listed.{holiday_of}
use Rattle.court_holidays.specs.States.Lists.{holidays_of}
use Rattle.court_holidays.specs.declared.states.state.State.{State}
use Rattle.court_holidays.specs.declared.states.listed.StateDay.{StateDay}
use Rattle.court_holidays.specs.declared.states.statute.StateHoliday.{StateHoliday}

-- the law sets the day itself for the holiday
abbrev pub is_set_on : ℤ → StateHoliday → Bool
is_set_on d holiday = is_day d (set_in holiday (year_of_day d))

-- the holiday is kept on the day
abbrev pub is_kept_on : ℤ → StateDay → Bool
is_kept_on d listed = is_day d (kept_in (holiday_of listed) (year_of_day d))

-- the holiday of a state that is kept on a day; where two are, the first
unfoldable pub state_holiday_on : State → ℤ → Option StateDay
state_holiday_on state d = find (is_kept_on d) (holidays_of state)
