-- The day that a state's statute names for a holiday in a year.
use Rattle.std.specs.Prelude.{ℤ, pos, ◌+ℤ◌, ◌-ℤ◌}
use Rattle.jiff_core.specs.declared.civil.weekday.Weekday.TheVariants.{Monday, Tuesday, Thursday, Friday}
use Rattle.court_holidays.specs.Weekdays.{nth_weekday, last_weekday}
use Rattle.court_holidays.specs.Dates.{on}
use Rattle.court_holidays.specs.States.Easter.{good_friday}
use Rattle.court_holidays.specs.declared.states.statute.StateHoliday.{StateHoliday}
use Rattle.court_holidays.specs.declared.states.statute.StateHoliday.TheVariants.{LincolnsBirthday, LincolnDay, LincolnsBirthdayItself, GoodFriday, ElectionDay, ElectionDaySince2020, GeneralElectionDay, DayAfterThanksgiving, NativeAmericanHeritageDay, AmericanIndianHeritageDay, FamilyDay, LincolnsDay, ConfederateMemorialMonday, DavissMonday, SewardsDay, AlaskaDay, ChristmasEve, CesarChavezDay, AdmissionDay, NativeAmericanDay, FrancesXavierCabriniDay, DistrictEmancipationDay, KingsBirthday, LeesBirthday, SusanBAnthonysBirthday, PascuaFloridaDay, ConfederateMemorialDay, DavissBirthday, FlagDay, GuamHistoryDay, LiberationDay, AllSoulsDay, LadyOfCamarinDay, PrinceKuhioDay, KamehamehaDay, StatehoodDay, PulaskisBirthday, PrimaryElectionDay, RooseveltDay, BattleOfNewOrleansDay, LeeDayTo2022, MardiGras, ConfederateMemorialDayTo2022, HueyLongDay, AllSaintsDay, NewYearsEve, MarylandDay, DefendersDay, PatriotsDay, ConfederateMemorialLastMonday, TrumanDay, ArborDay, NevadaDay, JuneteenthOfNewJersey, GreekIndependenceDay, HalifaxResolvesDay, MecklenburgDay, ConfederateMemorialTenthOfMay, CovenantDay, CitizenshipDay, CommonwealthConstitutionDay, ThreeKingsDay, AmericanCitizenshipDay, AbolitionDay, ConstitutionDay, DiscoveryDay, VictoryDay, ConfederateMemorialDayOfSouthCarolina, ConfederateHeroesDay, TexasIndependenceDay, SanJacintoDay, TexasEmancipationDay, LyndonBainesJohnsonDay, DayBeforeChristmas, DayAfterChristmas, JuneteenthOfUtah, PioneerDay, TownMeetingDay, BenningtonBattleDay, TransferDay, HolyThursday, EasterMonday, VirginIslandsEmancipationDay, LibertyDay, ChristmasSecondDay, LeeJacksonDay, WestVirginiaDay, WestVirginiaPrimaryDay, PartisanPrimaryDay}

-- the Tuesday after the first Monday of November
abbrev pub election_day : ℤ → ℤ
election_day y = nth_weekday 1 Monday 11 y +ℤ pos 1

-- the day that the statute names in a year
unfoldable pub words_of : StateHoliday → ℤ → ℤ
-- 12 February, Lincoln's birthday
words_of LincolnsBirthday y = on 2 12 y
-- the same, where one on a Saturday is kept on the Friday
words_of LincolnDay y = on 2 12 y
-- the same, where it is never moved
words_of LincolnsBirthdayItself y = on 2 12 y
-- Good Friday
words_of GoodFriday y = good_friday y
-- the day of a general election: the Tuesday after the first Monday of November
words_of ElectionDay y = election_day y
-- the same, since 2020
words_of ElectionDaySince2020 y = election_day y
-- the same, in even years
words_of GeneralElectionDay y = election_day y
-- the Friday after the fourth Thursday of November
words_of DayAfterThanksgiving y = nth_weekday 4 Thursday 11 y +ℤ pos 1
-- the same, under its name in Washington
words_of NativeAmericanHeritageDay y = nth_weekday 4 Thursday 11 y +ℤ pos 1
-- the same, under its name in Maryland
words_of AmericanIndianHeritageDay y = nth_weekday 4 Thursday 11 y +ℤ pos 1
-- the same, under its name in Nevada
words_of FamilyDay y = nth_weekday 4 Thursday 11 y +ℤ pos 1
-- the same, under its name in West Virginia
words_of LincolnsDay y = nth_weekday 4 Thursday 11 y +ℤ pos 1
-- the fourth Monday of April
words_of ConfederateMemorialMonday y = nth_weekday 4 Monday 4 y
-- the first Monday of June
words_of DavissMonday y = nth_weekday 1 Monday 6 y
-- the last Monday of March
words_of SewardsDay y = last_weekday Monday 3 y
-- 18 October
words_of AlaskaDay y = on 10 18 y
-- 24 December, where one on a Saturday is kept on the Friday
words_of ChristmasEve y = on 12 24 y
-- 31 March
words_of CesarChavezDay y = on 3 31 y
-- 9 September
words_of AdmissionDay y = on 9 9 y
-- the fourth Friday of September
words_of NativeAmericanDay y = nth_weekday 4 Friday 9 y
-- the first Monday of October, since 2020
words_of FrancesXavierCabriniDay y = nth_weekday 1 Monday 10 y
-- 16 April
words_of DistrictEmancipationDay y = on 4 16 y
-- 15 January
words_of KingsBirthday y = on 1 15 y
-- 19 January
words_of LeesBirthday y = on 1 19 y
-- 15 February
words_of SusanBAnthonysBirthday y = on 2 15 y
-- 2 April
words_of PascuaFloridaDay y = on 4 2 y
-- 26 April
words_of ConfederateMemorialDay y = on 4 26 y
-- 3 June
words_of DavissBirthday y = on 6 3 y
-- 14 June
words_of FlagDay y = on 6 14 y
-- the first Monday of March
words_of GuamHistoryDay y = nth_weekday 1 Monday 3 y
-- 21 July
words_of LiberationDay y = on 7 21 y
-- 2 November
words_of AllSoulsDay y = on 11 2 y
-- 8 December
words_of LadyOfCamarinDay y = on 12 8 y
-- 26 March
words_of PrinceKuhioDay y = on 3 26 y
-- 11 June
words_of KamehamehaDay y = on 6 11 y
-- the third Friday of August
words_of StatehoodDay y = nth_weekday 3 Friday 8 y
-- the first Monday of March
words_of PulaskisBirthday y = nth_weekday 1 Monday 3 y
-- the Tuesday after the first Monday of May, in even years but 2020
words_of PrimaryElectionDay y = nth_weekday 1 Monday 5 y +ℤ pos 1
-- 30 January
words_of RooseveltDay y = on 1 30 y
-- 8 January
words_of BattleOfNewOrleansDay y = on 1 8 y
-- 19 January, up to 2022
words_of LeeDayTo2022 y = on 1 19 y
-- the Tuesday before Ash Wednesday, 47 days before Easter
words_of MardiGras y = good_friday y -ℤ pos 45
-- 3 June, up to 2022
words_of ConfederateMemorialDayTo2022 y = on 6 3 y
-- 30 August
words_of HueyLongDay y = on 8 30 y
-- 1 November
words_of AllSaintsDay y = on 11 1 y
-- 31 December
words_of NewYearsEve y = on 12 31 y
-- 25 March
words_of MarylandDay y = on 3 25 y
-- 12 September
words_of DefendersDay y = on 9 12 y
-- the third Monday of April
words_of PatriotsDay y = nth_weekday 3 Monday 4 y
-- the last Monday of April
words_of ConfederateMemorialLastMonday y = last_weekday Monday 4 y
-- 8 May
words_of TrumanDay y = on 5 8 y
-- the last Friday of April
words_of ArborDay y = last_weekday Friday 4 y
-- the last Friday of October
words_of NevadaDay y = last_weekday Friday 10 y
-- the third Friday of June, since 2021
words_of JuneteenthOfNewJersey y = nth_weekday 3 Friday 6 y
-- 25 March
words_of GreekIndependenceDay y = on 3 25 y
-- 12 April
words_of HalifaxResolvesDay y = on 4 12 y
-- 20 May
words_of MecklenburgDay y = on 5 20 y
-- 10 May, where one on a Saturday stays
words_of ConfederateMemorialTenthOfMay y = on 5 10 y
-- 24 March
words_of CovenantDay y = on 3 24 y
-- 4 November
words_of CitizenshipDay y = on 11 4 y
-- 8 December
words_of CommonwealthConstitutionDay y = on 12 8 y
-- 6 January
words_of ThreeKingsDay y = on 1 6 y
-- 2 March, since 2018
words_of AmericanCitizenshipDay y = on 3 2 y
-- 22 March
words_of AbolitionDay y = on 3 22 y
-- 25 July
words_of ConstitutionDay y = on 7 25 y
-- 19 November
words_of DiscoveryDay y = on 11 19 y
-- the second Monday of August
words_of VictoryDay y = nth_weekday 2 Monday 8 y
-- 10 May, where one on a Saturday is kept on the Friday
words_of ConfederateMemorialDayOfSouthCarolina y = on 5 10 y
-- 19 January
words_of ConfederateHeroesDay y = on 1 19 y
-- 2 March
words_of TexasIndependenceDay y = on 3 2 y
-- 21 April
words_of SanJacintoDay y = on 4 21 y
-- 19 June, up to 2020; since 2021 the federal list has it
words_of TexasEmancipationDay y = on 6 19 y
-- 27 August
words_of LyndonBainesJohnsonDay y = on 8 27 y
-- 24 December
words_of DayBeforeChristmas y = on 12 24 y
-- 26 December
words_of DayAfterChristmas y = on 12 26 y
-- the Monday of 15 to 21 June, which is the third of the month, since 2022
words_of JuneteenthOfUtah y = nth_weekday 3 Monday 6 y
-- 24 July
words_of PioneerDay y = on 7 24 y
-- the first Tuesday of March
words_of TownMeetingDay y = nth_weekday 1 Tuesday 3 y
-- 16 August
words_of BenningtonBattleDay y = on 8 16 y
-- 31 March
words_of TransferDay y = on 3 31 y
-- the day before Good Friday
words_of HolyThursday y = good_friday y -ℤ pos 1
-- the Monday after Easter, three days after Good Friday
words_of EasterMonday y = good_friday y +ℤ pos 3
-- 3 July
words_of VirginIslandsEmancipationDay y = on 7 3 y
-- 1 November
words_of LibertyDay y = on 11 1 y
-- 26 December, under its name in the Virgin Islands
words_of ChristmasSecondDay y = on 12 26 y
-- the Friday before the third Monday of January, up to 2020
words_of LeeJacksonDay y = nth_weekday 3 Monday 1 y -ℤ pos 3
-- 20 June
words_of WestVirginiaDay y = on 6 20 y
-- the second Tuesday of May, in even years but 2020
words_of WestVirginiaPrimaryDay y = nth_weekday 2 Tuesday 5 y
-- the second Tuesday of August, in even years
words_of PartisanPrimaryDay y = nth_weekday 2 Tuesday 8 y
