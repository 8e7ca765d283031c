-- The days that the law of a state sets aside and the federal list lacks. A day of which it is in doubt that the state declares it a
-- holiday in the sense of Fed. R. Civ. P. 6(a)(6)(C), though a statute names it, is marked, and a comment says why.
use Rattle.std.specs.Prelude.{List, [], ◌∷◌}
use Rattle.court_holidays.specs.declared.states.state.State.{State}
use Rattle.court_holidays.specs.declared.states.state.State.TheVariants.{Alabama, Alaska, Arizona, Arkansas, California, Colorado, Connecticut, Delaware, DistrictOfColumbia, Florida, Georgia, Guam, Hawaii, Idaho, Illinois, Indiana, Iowa, Kansas, Kentucky, Louisiana, Maine, Maryland, Massachusetts, Michigan, Minnesota, Mississippi, Missouri, Montana, Nebraska, Nevada, NewHampshire, NewJersey, NewMexico, NewYork, NorthCarolina, NorthDakota, NorthernMarianaIslands, Ohio, Oklahoma, Oregon, Pennsylvania, PuertoRico, RhodeIsland, SouthCarolina, SouthDakota, Tennessee, Texas, Utah, Vermont, VirginIslands, Virginia, Washington, WestVirginia, Wisconsin, Wyoming}
use Rattle.court_holidays.specs.declared.states.listed.StateDay.{StateDay}
use Rattle.court_holidays.specs.declared.states.listed.StateDay.TheVariants.{Sure, Doubtful}
use Rattle.court_holidays.specs.declared.states.statute.StateHoliday.TheVariants.{LincolnsBirthday, LincolnDay, LincolnsBirthdayItself, GoodFriday, ElectionDay, ElectionDaySince2020, GeneralElectionDay, DayAfterThanksgiving, NativeAmericanHeritageDay, AmericanIndianHeritageDay, FamilyDay, LincolnsDay, ConfederateMemorialMonday, DavissMonday, SewardsDay, AlaskaDay, ChristmasEve, CesarChavezDay, AdmissionDay, NativeAmericanDay, FrancesXavierCabriniDay, DistrictEmancipationDay, KingsBirthday, LeesBirthday, SusanBAnthonysBirthday, PascuaFloridaDay, ConfederateMemorialDay, DavissBirthday, FlagDay, GuamHistoryDay, LiberationDay, AllSoulsDay, LadyOfCamarinDay, PrinceKuhioDay, KamehamehaDay, StatehoodDay, PulaskisBirthday, PrimaryElectionDay, RooseveltDay, BattleOfNewOrleansDay, LeeDayTo2022, MardiGras, ConfederateMemorialDayTo2022, HueyLongDay, AllSaintsDay, NewYearsEve, MarylandDay, DefendersDay, PatriotsDay, ConfederateMemorialLastMonday, TrumanDay, ArborDay, NevadaDay, JuneteenthOfNewJersey, GreekIndependenceDay, HalifaxResolvesDay, MecklenburgDay, ConfederateMemorialTenthOfMay, CovenantDay, CitizenshipDay, CommonwealthConstitutionDay, ThreeKingsDay, AmericanCitizenshipDay, AbolitionDay, ConstitutionDay, DiscoveryDay, VictoryDay, ConfederateMemorialDayOfSouthCarolina, ConfederateHeroesDay, TexasIndependenceDay, SanJacintoDay, TexasEmancipationDay, LyndonBainesJohnsonDay, DayBeforeChristmas, DayAfterChristmas, JuneteenthOfUtah, PioneerDay, TownMeetingDay, BenningtonBattleDay, TransferDay, HolyThursday, EasterMonday, VirginIslandsEmancipationDay, LibertyDay, ChristmasSecondDay, LeeJacksonDay, WestVirginiaDay, WestVirginiaPrimaryDay, PartisanPrimaryDay}

-- the holidays of a state; where two are kept on one day, the first gives it its name
unfoldable pub holidays_of : State → List StateDay
-- Ala. Code section 1-3-8: Mardi Gras is a holiday of Mobile and Baldwin Counties alone
holidays_of Alabama = Sure ConfederateMemorialMonday ∷ Sure DavissMonday ∷ []
-- Alaska Stat. section 44.12.010 and those after it
holidays_of Alaska = Sure SewardsDay ∷ Sure AlaskaDay ∷ []
-- Ariz. Rev. Stat. section 1-301: each of its holidays is in the federal list or always on a Sunday
holidays_of Arizona = []
-- Ark. Code section 1-5-101: in doubt, since its holidays are those 'applicable to state government'
holidays_of Arkansas = Doubtful ChristmasEve ∷ []
-- Cal. Gov't Code sections 6700 and 6701: Admission Day is in doubt, since the state's own courts sit on it, and the day
-- after Thanksgiving, since the statute that has it is one of courts: Cal. Civ. Proc. Code section 135
holidays_of California =
    Sure LincolnsBirthday ∷ Sure CesarChavezDay ∷ Doubtful AdmissionDay ∷ Sure NativeAmericanDay
    ∷ Doubtful DayAfterThanksgiving ∷ []
-- Colo. Rev. Stat. section 24-11-101
holidays_of Colorado = Sure FrancesXavierCabriniDay ∷ []
-- Conn. Gen. Stat. section 1-4: Good Friday is in doubt, since it is one by the Governor's appointment of a day of fasting
holidays_of Connecticut = Sure LincolnDay ∷ Doubtful GoodFriday ∷ []
-- Del. Code tit. 1, section 501
holidays_of Delaware = Sure GoodFriday ∷ Sure GeneralElectionDay ∷ Sure DayAfterThanksgiving ∷ []
-- D.C. Code section 28-2701: Inauguration Day is in the federal list
holidays_of DistrictOfColumbia = Sure DistrictEmancipationDay ∷ []
-- Fla. Stat. section 683.01
holidays_of Florida =
    Sure KingsBirthday ∷ Sure LeesBirthday ∷ Sure LincolnsBirthday ∷ Sure SusanBAnthonysBirthday ∷ Sure GoodFriday
    ∷ Sure PascuaFloridaDay ∷ Sure ConfederateMemorialDay ∷ Sure DavissBirthday ∷ Sure FlagDay ∷ Sure GeneralElectionDay ∷ []
-- O.C.G.A. section 1-4-1: the holidays of the United States, and those that the Governor names
holidays_of Georgia = []
-- 1 Guam Code Ann. section 1000
holidays_of Guam = Sure GuamHistoryDay ∷ Sure LiberationDay ∷ Sure AllSoulsDay ∷ Sure LadyOfCamarinDay ∷ []
-- Haw. Rev. Stat. sections 8-1 and 8-2
holidays_of Hawaii = Sure GoodFriday ∷ Sure PrinceKuhioDay ∷ Sure KamehamehaDay ∷ Sure StatehoodDay ∷ Sure GeneralElectionDay ∷ []
-- Idaho Code section 73-108: each of its holidays is in the federal list
holidays_of Idaho = []
-- 205 ILCS 630/17: Good Friday is in doubt, since the Act is one of banks
holidays_of Illinois = Sure LincolnsBirthday ∷ Sure PulaskisBirthday ∷ Doubtful GoodFriday ∷ Sure GeneralElectionDay ∷ []
-- Ind. Code section 1-1-9-1: Lincoln's birthday is in doubt, since the state's offices are open on it and keep it on another
-- day
holidays_of Indiana = Doubtful LincolnDay ∷ Sure GoodFriday ∷ Sure PrimaryElectionDay ∷ Sure GeneralElectionDay ∷ []
-- Iowa Code sections 1C.1 and 4.1: in doubt, since the state's offices and courts are open on it
holidays_of Iowa = Doubtful LincolnsBirthday ∷ []
-- Kan. Stat. section 35-107: in doubt, since the state's offices and courts are open on it
holidays_of Kansas = Doubtful LincolnsBirthdayItself ∷ []
-- Ky. Rev. Stat. section 2.110: in doubt, since the statute has holidays on which offices may be closed, and the state's
-- offices and courts are open on these
holidays_of Kentucky = Doubtful LeesBirthday ∷ Doubtful RooseveltDay ∷ Doubtful LincolnsBirthday ∷ Doubtful DavissBirthday ∷ []
-- La. Rev. Stat. section 1:55: in doubt are days of its subsection A on which the state's courts sit, Mardi Gras, which is a
-- holiday where a parish declares it, and days of its subsection E, on which clerks' offices are closed
holidays_of Louisiana =
    Doubtful BattleOfNewOrleansDay ∷ Doubtful LeeDayTo2022 ∷ Doubtful MardiGras ∷ Sure GoodFriday
    ∷ Doubtful ConfederateMemorialDayTo2022 ∷ Doubtful HueyLongDay ∷ Sure AllSaintsDay ∷ Doubtful DayAfterThanksgiving
    ∷ Doubtful DayBeforeChristmas ∷ Doubtful NewYearsEve ∷ []
-- Me. Rev. Stat. tit. 4, section 1051
holidays_of Maine = Sure PatriotsDay ∷ []
-- Md. Code, Gen. Prov. section 1-111: in doubt are days that it names and on which the state's offices and courts are open
holidays_of Maryland =
    Doubtful LincolnsBirthdayItself ∷ Doubtful MarylandDay ∷ Doubtful GoodFriday ∷ Doubtful DefendersDay
    ∷ Sure GeneralElectionDay ∷ Sure AmericanIndianHeritageDay ∷ []
-- Mass. Gen. Laws ch. 4, section 7, cl. 18
holidays_of Massachusetts = Sure PatriotsDay ∷ []
-- Mich. Comp. Laws section 435.101: in doubt, since the state's courts sit on it
holidays_of Michigan = Doubtful LincolnsBirthday ∷ []
-- Minn. Stat. section 645.44, subd. 5: in doubt, since it is one of the executive branch, and of others where they choose
holidays_of Minnesota = Doubtful DayAfterThanksgiving ∷ []
-- Miss. Code section 3-3-7
holidays_of Mississippi = Sure ConfederateMemorialLastMonday ∷ []
-- Mo. Rev. Stat. section 9.010
holidays_of Missouri = Sure LincolnsBirthday ∷ Sure TrumanDay ∷ []
-- Mont. Code section 1-1-216
holidays_of Montana = Sure GeneralElectionDay ∷ []
-- Neb. Rev. Stat. sections 25-2221 and 62-301
holidays_of Nebraska = Sure ArborDay ∷ Sure DayAfterThanksgiving ∷ []
-- Nev. Rev. Stat. section 236.015
holidays_of Nevada = Sure NevadaDay ∷ Sure FamilyDay ∷ []
-- N.H. Rev. Stat. section 288:1: in doubt, since the state's courts sit on it
holidays_of NewHampshire = Doubtful GeneralElectionDay ∷ []
-- N.J. Stat. Ann. section 36:1-1, and Pub. L. 2020, ch. 76: Lincoln's Birthday is in doubt, since the state's offices are
-- open on it
holidays_of NewJersey = Doubtful LincolnsBirthday ∷ Sure GoodFriday ∷ Sure JuneteenthOfNewJersey ∷ Sure ElectionDay ∷ []
-- N.M. Stat. section 12-5-2: each of its holidays is in the federal list
holidays_of NewMexico = []
-- N.Y. Gen. Constr. Law section 24: Flag Day is always a Sunday
holidays_of NewYork = Sure LincolnsBirthday ∷ Sure ElectionDay ∷ []
-- N.C. Gen. Stat. section 103-4: in doubt, since the state's own Rule 6 counts a legal holiday only where the courthouse is
-- closed on it
holidays_of NorthCarolina =
    Doubtful LeesBirthday ∷ Doubtful GreekIndependenceDay ∷ Doubtful HalifaxResolvesDay ∷ Doubtful GoodFriday
    ∷ Doubtful ConfederateMemorialTenthOfMay ∷ Doubtful MecklenburgDay ∷ Doubtful GeneralElectionDay ∷ []
-- N.D. Cent. Code section 1-03-01
holidays_of NorthDakota = Sure GoodFriday ∷ []
-- 1 N. Mar. I. Code section 311: Commonwealth Cultural Day is Columbus Day
holidays_of NorthernMarianaIslands =
    Sure CovenantDay ∷ Sure GoodFriday ∷ Sure CitizenshipDay ∷ Sure CommonwealthConstitutionDay ∷ []
-- Ohio Rev. Code section 1.14: each of its holidays is in the federal list
holidays_of Ohio = []
-- Okla. Stat. tit. 25, section 82.1: each of its holidays is in the federal list
holidays_of Oklahoma = []
-- Or. Rev. Stat. sections 187.010 and 187.020: each of its holidays is in the federal list
holidays_of Oregon = []
-- 44 Pa. Stat. section 11: Flag Day is in doubt, since the state's offices and courts are open on it
holidays_of Pennsylvania = Sure GoodFriday ∷ Doubtful FlagDay ∷ Sure ElectionDay ∷ []
-- P.R. Act No. 111-2014: American Citizenship Day is in doubt, since a later Act may have made it one
holidays_of PuertoRico =
    Sure ThreeKingsDay ∷ Doubtful AmericanCitizenshipDay ∷ Sure AbolitionDay ∷ Sure GoodFriday ∷ Sure ConstitutionDay
    ∷ Sure DiscoveryDay ∷ []
-- R.I. Gen. Laws section 25-1-1
holidays_of RhodeIsland = Sure VictoryDay ∷ Sure GeneralElectionDay ∷ []
-- S.C. Code section 53-5-10: in doubt are two days that it may not name
holidays_of SouthCarolina =
    Sure ConfederateMemorialDayOfSouthCarolina ∷ Doubtful DayAfterThanksgiving ∷ Doubtful DayAfterChristmas ∷ []
-- S.D. Codified Laws section 1-5-1: Native Americans' Day is Columbus Day, and each other holiday is in the federal list
holidays_of SouthDakota = []
-- Tenn. Code section 15-1-101: the day of a general election is in doubt, since the statute has holidays on which offices
-- may be closed, and the state's courts sit on it
holidays_of Tennessee = Sure GoodFriday ∷ Doubtful GeneralElectionDay ∷ []
-- Tex. Gov't Code section 662.003(b): 24 and 26 December are in doubt, since section 662.021 counts as legal holidays the
-- first six alone
holidays_of Texas =
    Sure ConfederateHeroesDay ∷ Sure TexasIndependenceDay ∷ Sure SanJacintoDay ∷ Sure TexasEmancipationDay
    ∷ Sure LyndonBainesJohnsonDay ∷ Sure DayAfterThanksgiving ∷ Doubtful DayBeforeChristmas ∷ Doubtful DayAfterChristmas ∷ []
-- Utah Code section 63G-1-301: Juneteenth is kept on a Monday, by the statute itself
holidays_of Utah = Sure JuneteenthOfUtah ∷ Sure PioneerDay ∷ []
-- Vt. Stat. tit. 1, section 371
holidays_of Vermont = Sure TownMeetingDay ∷ Sure BenningtonBattleDay ∷ []
-- 1 V.I. Code section 171
holidays_of VirginIslands =
    Sure ThreeKingsDay ∷ Sure TransferDay ∷ Sure HolyThursday ∷ Sure GoodFriday ∷ Sure EasterMonday
    ∷ Sure VirginIslandsEmancipationDay ∷ Sure LibertyDay ∷ Sure ChristmasSecondDay ∷ []
-- Va. Code section 2.2-3300
holidays_of Virginia = Sure LeeJacksonDay ∷ Sure ElectionDaySince2020 ∷ Sure DayAfterThanksgiving ∷ []
-- Wash. Rev. Code section 1.16.050
holidays_of Washington = Sure NativeAmericanHeritageDay ∷ []
-- W. Va. Code section 2-2-1
holidays_of WestVirginia = Sure WestVirginiaPrimaryDay ∷ Sure WestVirginiaDay ∷ Sure GeneralElectionDay ∷ Sure LincolnsDay ∷ []
-- Wis. Stat. section 995.20: in doubt, since the state's offices and courts are open on them
holidays_of Wisconsin = Doubtful PartisanPrimaryDay ∷ Doubtful GeneralElectionDay ∷ []
-- Wyo. Stat. section 8-4-101: each of its holidays is in the federal list
holidays_of Wyoming = []
