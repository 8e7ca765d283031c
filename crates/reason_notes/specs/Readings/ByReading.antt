-- The days of a court, here and by two other readings, by which some of them aren't legal holidays.
--
-- 5 U.S.C. 6103(b)(1) gives the Friday before a Saturday's holiday to employees, and Rule 6(a)(6) doesn't name it. Here such a
-- Friday is a legal holiday where the court's file lists it. By another reading it is none.
--
-- Rule 6(a)(6)(C) has the days that the state declares holidays. Here a day that the court's file lists is one. By another reading
-- the state doesn't so declare a day that is marked as doubtful.
use Rattle.std.specs.Prelude.{ℤ, ◌==◌, ◌&&◌, Bool, is_some, filter, List}
use Rattle.court_clock.specs.Words.{weekday_of}
use Rattle.court_days.specs.Words.{DaysView, without_dates}
use Rattle.court_days.specs.declared.holiday_list.HolidayList.TheVariants.{Federal, State}
use Rattle.court_holidays.specs.Federal.Words.{observed_on}

-- the days here, those on which no Friday is a holiday for a Saturday's, and those on which no doubtful day is one of the state
pub record DaysByReadingView : Type 0 where
  pub here : DaysView
  pub fridays_open : DaysView
  pub doubtful_open : DaysView

-- a Friday on which the holiday of the Saturday after it is observed
abbrev pub is_observed_friday : ℤ → Bool
is_observed_friday day = weekday_of day == 4 && is_some (observed_on day)

unfoldable pub without_fridays : DaysView → DaysView
without_fridays c = without_dates c Federal (filter is_observed_friday c.federal)

unfoldable pub without_doubtful : DaysView → (doubtful : List ℤ) → DaysView
without_doubtful c doubtful = without_dates c State doubtful

abbrev pub days_by_reading : DaysView → (doubtful : List ℤ) → DaysByReadingView
days_by_reading c doubtful = record { here = c; fridays_open = without_fridays c; doubtful_open = without_doubtful c doubtful }
