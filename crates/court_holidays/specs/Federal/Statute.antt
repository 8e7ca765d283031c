-- The days that 5 U.S.C. 6103 sets aside, in its words, for the years 1970 to 2199. Fed. R. Civ. P. 6(a)(6)(A) counts as a
-- legal holiday 'the day set aside by statute for observing' each of these but Inauguration Day.
use Rattle.std.specs.Prelude.{◌≡◌, ◌==◌, ℕ, ◌%◌, ℤ, pos, ◌≤ℤ◌, int_le, int_lt, Bool, ◌&&◌, unsigned_abs, List, codes, Option, Some, None, if◌then◌else◌}
use Rattle.jiff_core.specs.declared.civil.weekday.Weekday.TheVariants.{Monday, Thursday}
use Rattle.court_clock.specs.Words.{weekday_of}
use Rattle.court_holidays.specs.Dates.{on}
use Rattle.court_holidays.specs.Weekdays.{nth_weekday, last_weekday}
use Rattle.court_holidays.specs.declared.federal.statute.FederalHoliday.{FederalHoliday}
use Rattle.court_holidays.specs.declared.federal.statute.FederalHoliday.TheVariants.{NewYearsDay, BirthdayOfMartinLutherKingJr, InaugurationDay, WashingtonsBirthday, MemorialDay, Juneteenth, IndependenceDay, LaborDay, ColumbusDay, VeteransDay, ThanksgivingDay, ChristmasDay}

-- the years for which these definitions say what the law sets: from 1970, and as the law is now up to 2199
abbrev pub is_stated : ℤ → Bool
is_stated year = int_le (pos 1970) year && int_le year (pos 2199)

-- none in years before the first
abbrev pub since : ℤ → ℤ → ℤ → Option ℤ
since first year d = if int_lt year first then None else Some d

-- The Uniform Monday Holiday Act, Pub. L. 90-363, took effect on 1 January 1971.
abbrev pub before_monday_holidays : ℤ → Bool
before_monday_holidays year = int_lt year (pos 1971)

-- 6103(c): January 20 of each fourth year after 1965, which is each year after one that four divides
abbrev pub is_inauguration_year : ℤ → Bool
is_inauguration_year year = unsigned_abs year % 4 == 1

-- January 20, or the next day where that falls on Sunday
abbrev pub inauguration_in : ℤ → ℤ
inauguration_in year = if weekday_of (on 1 20 year) == 6 then on 1 21 year else on 1 20 year

-- the day that the statute sets aside in a year, if it does
abbrev pub words_of : FederalHoliday → ℤ → Option ℤ
-- 6103(a): 'New Year's Day, January 1.'
words_of NewYearsDay y = Some (on 1 1 y)
-- 6103(a): 'Birthday of Martin Luther King, Jr., the third Monday in January.' Since 1986: Pub. L. 98-144.
words_of BirthdayOfMartinLutherKingJr y = since (pos 1986) y (nth_weekday 3 Monday 1 y)
-- 6103(c): January 20 of each fourth year after 1965. Where it falls on Sunday, the next day, on which the inauguration is
-- publicly observed. A holiday in the District of Columbia and the counties and cities about it.
words_of InaugurationDay y = if is_inauguration_year y then Some (inauguration_in y) else None
-- 6103(a): 'Washington's Birthday, the third Monday in February.' Before 1971 February 22: Pub. L. 90-363.
words_of WashingtonsBirthday y = Some (if before_monday_holidays y then on 2 22 y else nth_weekday 3 Monday 2 y)
-- 6103(a): 'Memorial Day, the last Monday in May.' Before 1971 May 30: Pub. L. 90-363.
words_of MemorialDay y = Some (if before_monday_holidays y then on 5 30 y else last_weekday Monday 5 y)
-- 6103(a): 'Juneteenth National Independence Day, June 19.' Since 2021: Pub. L. 117-17, of 17 June 2021.
words_of Juneteenth y = since (pos 2021) y (on 6 19 y)
-- 6103(a): 'Independence Day, July 4.'
words_of IndependenceDay y = Some (on 7 4 y)
-- 6103(a): 'Labor Day, the first Monday in September.'
words_of LaborDay y = Some (nth_weekday 1 Monday 9 y)
-- 6103(a): 'Columbus Day, the second Monday in October.' Since 1971: Pub. L. 90-363. No federal holiday before.
words_of ColumbusDay y = since (pos 1971) y (nth_weekday 2 Monday 10 y)
-- 6103(a): 'Veterans Day, November 11.' From 1971 to 1977 the fourth Monday in October: Pub. L. 90-363, and Pub. L. 94-97,
-- which took effect on 1 January 1978.
words_of VeteransDay y =
    Some (if int_le (pos 1971) y && int_le y (pos 1977) then nth_weekday 4 Monday 10 y else on 11 11 y)
-- 6103(a): 'Thanksgiving Day, the fourth Thursday in November.'
words_of ThanksgivingDay y = Some (nth_weekday 4 Thursday 11 y)
-- 6103(a): 'Christmas Day, December 25.'
words_of ChristmasDay y = Some (on 12 25 y)

-- the day set by law in a year, if the year is one of those
unfoldable pub set_in : FederalHoliday → ℤ → Option ℤ
set_in holiday year = if is_stated year then words_of holiday year else None

-- the name, as the statute has it
abbrev pub statute_name : FederalHoliday → List ℕ
statute_name NewYearsDay = codes "New Year's Day"
statute_name BirthdayOfMartinLutherKingJr = codes "Birthday of Martin Luther King, Jr."
statute_name InaugurationDay = codes "Inauguration Day"
statute_name WashingtonsBirthday = codes "Washington's Birthday"
statute_name MemorialDay = codes "Memorial Day"
statute_name Juneteenth = codes "Juneteenth National Independence Day"
statute_name IndependenceDay = codes "Independence Day"
statute_name LaborDay = codes "Labor Day"
statute_name ColumbusDay = codes "Columbus Day"
statute_name VeteransDay = codes "Veterans Day"
statute_name ThanksgivingDay = codes "Thanksgiving Day"
statute_name ChristmasDay = codes "Christmas Day"

-- the part of the statute that sets its day
abbrev pub federal_statute : FederalHoliday → List ℕ
federal_statute InaugurationDay = codes "5 U.S.C. 6103(c)"
federal_statute holiday = codes "5 U.S.C. 6103(a)"

-- what follows from these words: Labor Day is a Monday, from 1 to 7 September
abbrev pub LaborDayIsAMonday : Type 0
LaborDayIsAMonday = (y d : ℤ) → set_in LaborDay y ≡ Some d → (weekday_of d ≡ 0) × (on 9 1 y ≤ℤ d) × (d ≤ℤ on 9 7 y)

-- each holiday is on a day of its year
abbrev pub HolidaysLieInTheirYear : Type 0
HolidaysLieInTheirYear = (h : FederalHoliday) (y d : ℤ) → set_in h y ≡ Some d → (on 1 1 y ≤ℤ d) × (d ≤ℤ on 12 31 y)

-- no two are on one day, but Inauguration Day and another
abbrev pub NoTwoShareADay : Type 0
NoTwoShareADay = (h k : FederalHoliday) (y z d : ℤ) → ¬ (h ≡ InaugurationDay) → ¬ (k ≡ InaugurationDay) → set_in h y ≡ Some d → set_in k z ≡ Some d → (h ≡ k) × (y ≡ z)
