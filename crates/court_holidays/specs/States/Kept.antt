-- In which years a state's holiday is one, and the day on which it is kept.
use Rattle.std.specs.Prelude.{◌==◌, ◌%◌, ℤ, pos, ◌+ℤ◌, ◌-ℤ◌, int_le, Bool, true, not, ◌&&◌, unsigned_abs, Option, Some, None, option_map, if◌then◌else◌}
use Rattle.std.specs.Ordering.{int_eq}
use Rattle.court_clock.specs.Words.{weekday_of}
use Rattle.court_holidays.specs.States.Days.{words_of}
use Rattle.court_holidays.specs.declared.states.statute.StateHoliday.{StateHoliday}
use Rattle.court_holidays.specs.declared.states.statute.StateHoliday.TheVariants.{LincolnsBirthday, LincolnDay, ElectionDaySince2020, GeneralElectionDay, AlaskaDay, ChristmasEve, CesarChavezDay, AdmissionDay, FrancesXavierCabriniDay, DistrictEmancipationDay, KingsBirthday, LeesBirthday, SusanBAnthonysBirthday, PascuaFloridaDay, ConfederateMemorialDay, DavissBirthday, FlagDay, PrinceKuhioDay, KamehamehaDay, PrimaryElectionDay, RooseveltDay, LeeDayTo2022, ConfederateMemorialDayTo2022, TrumanDay, JuneteenthOfNewJersey, GreekIndependenceDay, HalifaxResolvesDay, MecklenburgDay, ConfederateMemorialTenthOfMay, AmericanCitizenshipDay, AbolitionDay, ConstitutionDay, DiscoveryDay, ConfederateMemorialDayOfSouthCarolina, TexasEmancipationDay, JuneteenthOfUtah, PioneerDay, BenningtonBattleDay, LeeJacksonDay, WestVirginiaDay, WestVirginiaPrimaryDay, PartisanPrimaryDay}
use Rattle.court_holidays.specs.declared.states.statute.WeekendRule.{WeekendRule}
use Rattle.court_holidays.specs.declared.states.statute.WeekendRule.TheVariants.{Stays, SundayToMonday, NearestWeekday}

-- elections are held in even years; in 2020 the primaries of Indiana and West Virginia were held on other days, by order
abbrev pub is_even : ℤ → Bool
is_even y = unsigned_abs y % 2 == 0

abbrev pub has_primary : ℤ → Bool
has_primary y = is_even y && not (int_eq y (pos 2020))

-- whether it is a holiday in the year
unfoldable pub is_in_force : StateHoliday → ℤ → Bool
is_in_force ElectionDaySince2020 y = int_le (pos 2020) y
is_in_force GeneralElectionDay y = is_even y
is_in_force FrancesXavierCabriniDay y = int_le (pos 2020) y
is_in_force PrimaryElectionDay y = has_primary y
is_in_force LeeDayTo2022 y = int_le y (pos 2022)
is_in_force ConfederateMemorialDayTo2022 y = int_le y (pos 2022)
is_in_force JuneteenthOfNewJersey y = int_le (pos 2021) y
is_in_force AmericanCitizenshipDay y = int_le (pos 2018) y
is_in_force TexasEmancipationDay y = int_le y (pos 2020)
is_in_force JuneteenthOfUtah y = int_le (pos 2022) y
is_in_force LeeJacksonDay y = int_le y (pos 2020)
is_in_force WestVirginiaPrimaryDay y = has_primary y
is_in_force PartisanPrimaryDay y = is_even y
is_in_force holiday y = true

-- where it is kept that falls on a Saturday or a Sunday: on the Monday for a Sunday, on the Friday or the Monday beside either,
-- or on the day itself
unfoldable pub weekend_rule : StateHoliday → WeekendRule
weekend_rule LincolnsBirthday = SundayToMonday
weekend_rule CesarChavezDay = SundayToMonday
weekend_rule AdmissionDay = SundayToMonday
weekend_rule KingsBirthday = SundayToMonday
weekend_rule LeesBirthday = SundayToMonday
weekend_rule SusanBAnthonysBirthday = SundayToMonday
weekend_rule PascuaFloridaDay = SundayToMonday
weekend_rule ConfederateMemorialDay = SundayToMonday
weekend_rule DavissBirthday = SundayToMonday
weekend_rule FlagDay = SundayToMonday
weekend_rule RooseveltDay = SundayToMonday
weekend_rule TrumanDay = SundayToMonday
weekend_rule GreekIndependenceDay = SundayToMonday
weekend_rule HalifaxResolvesDay = SundayToMonday
weekend_rule MecklenburgDay = SundayToMonday
weekend_rule ConfederateMemorialTenthOfMay = SundayToMonday
weekend_rule AmericanCitizenshipDay = SundayToMonday
weekend_rule AbolitionDay = SundayToMonday
weekend_rule ConstitutionDay = SundayToMonday
weekend_rule DiscoveryDay = SundayToMonday
weekend_rule LincolnDay = NearestWeekday
weekend_rule AlaskaDay = NearestWeekday
weekend_rule ChristmasEve = NearestWeekday
weekend_rule DistrictEmancipationDay = NearestWeekday
weekend_rule PrinceKuhioDay = NearestWeekday
weekend_rule KamehamehaDay = NearestWeekday
weekend_rule ConfederateMemorialDayOfSouthCarolina = NearestWeekday
weekend_rule PioneerDay = NearestWeekday
weekend_rule BenningtonBattleDay = NearestWeekday
weekend_rule WestVirginiaDay = NearestWeekday
weekend_rule holiday = Stays

abbrev pub kept_by : WeekendRule → ℤ → ℤ
kept_by Stays d = d
kept_by SundayToMonday d = if weekday_of d == 6 then d +ℤ pos 1 else d
kept_by NearestWeekday d =
    if weekday_of d == 5 then d -ℤ pos 1 else if weekday_of d == 6 then d +ℤ pos 1 else d

-- the years for which these definitions say what the states' laws set: from 2016, and as the laws are now up to 2199
abbrev pub is_stated : ℤ → Bool
is_stated year = int_le (pos 2016) year && int_le year (pos 2199)

-- the day that the law sets in a year, if it does, and the day on which it is kept
unfoldable pub set_in : StateHoliday → ℤ → Option ℤ
set_in holiday year = if is_stated year && is_in_force holiday year then Some (words_of holiday year) else None

unfoldable pub kept_in : StateHoliday → ℤ → Option ℤ
kept_in holiday year = option_map (kept_by (weekend_rule holiday)) (set_in holiday year)
