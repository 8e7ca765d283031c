-- The district courts whose files can be written: the code by which each is asked for, the state that it is in (28 U.S.C. 81
-- to 131), and the zone of its clock, as a court's file has it (15 U.S.C. 260a to 263).
use Rattle.std.specs.Prelude.{ℕ, List, [], ◌∷◌, codes, Option}
use Rattle.std.specs.List.{find}
use Rattle.std.specs.Str.{bytes_eq}
use Rattle.court_holidays.specs.declared.states.state.State.{State}
use Rattle.court_holidays.specs.declared.states.state.State.TheVariants.{Alabama, Alaska, Arizona, Arkansas, California, Colorado, Connecticut, Delaware, DistrictOfColumbia, Florida, Georgia, Guam, Hawaii, Idaho, Illinois, Indiana, Iowa, Kansas, Kentucky, Louisiana, Maine, Maryland, Massachusetts, Michigan, Minnesota, Mississippi, Missouri, Montana, Nebraska, Nevada, NewHampshire, NewJersey, NewMexico, NewYork, NorthCarolina, NorthDakota, NorthernMarianaIslands, Ohio, Oklahoma, Oregon, Pennsylvania, PuertoRico, RhodeIsland, SouthCarolina, SouthDakota, Tennessee, Texas, Utah, Vermont, VirginIslands, Virginia, Washington, WestVirginia, Wisconsin, Wyoming}
use Rattle.court_writing.specs.declared.zones.ZoneName.{ZoneName}
use Rattle.court_writing.specs.declared.zones.ZoneName.TheVariants as zone

-- a district court
pub record District : Type 0 where
  pub code : List ℕ
  pub state : State
  pub zone : List ℕ

abbrev pub of_district : List ℕ → State → List ℕ → District
of_district code state zone = record { code = code; state = state; zone = zone }

-- The zones since 2007, as POSIX writes them: by how many hours Greenwich is ahead, and, where the clocks are changed, that
-- it's an hour less from the second Sunday of March at two o'clock to the first Sunday of November at two o'clock.
abbrev pub eastern : List ℕ
eastern = codes "EST5EDT,M3.2.0/2,M11.1.0/2"

abbrev pub central : List ℕ
central = codes "CST6CDT,M3.2.0/2,M11.1.0/2"

abbrev pub mountain : List ℕ
mountain = codes "MST7MDT,M3.2.0/2,M11.1.0/2"

abbrev pub arizona : List ℕ
arizona = codes "MST7"

abbrev pub pacific : List ℕ
pacific = codes "PST8PDT,M3.2.0/2,M11.1.0/2"

abbrev pub alaskan : List ℕ
alaskan = codes "AKST9AKDT,M3.2.0/2,M11.1.0/2"

abbrev pub hawaiian : List ℕ
hawaiian = codes "HST10"

abbrev pub atlantic : List ℕ
atlantic = codes "AST4"

abbrev pub chamorro : List ℕ
chamorro = codes "ChST-10"

-- the text of each; a court in whose district there are two clocks has that of its office in its file, and the other in a comment
abbrev pub zone_text : ZoneName → List ℕ
zone_text zone.Eastern = eastern
zone_text zone.Central = central
zone_text zone.Mountain = mountain
zone_text zone.Arizona = arizona
zone_text zone.Pacific = pacific
zone_text zone.Alaska = alaskan
zone_text zone.Hawaii = hawaiian
zone_text zone.Atlantic = atlantic
zone_text zone.Chamorro = chamorro

-- all, in the order of their codes
unfoldable pub districts : List District
districts =
    (of_district (codes "alabama_middle") Alabama central
    ∷ of_district (codes "alabama_northern") Alabama central
    ∷ of_district (codes "alabama_southern") Alabama central
    ∷ of_district (codes "alaska") Alaska alaskan
    ∷ of_district (codes "arizona") Arizona arizona
    ∷ of_district (codes "arkansas_eastern") Arkansas central
    ∷ of_district (codes "arkansas_western") Arkansas central
    ∷ of_district (codes "california_central") California pacific
    ∷ of_district (codes "california_eastern") California pacific
    ∷ of_district (codes "california_northern") California pacific
    ∷ of_district (codes "california_southern") California pacific
    ∷ of_district (codes "colorado") Colorado mountain
    ∷ of_district (codes "connecticut") Connecticut eastern
    ∷ of_district (codes "delaware") Delaware eastern
    ∷ of_district (codes "district_of_columbia") DistrictOfColumbia eastern
    ∷ of_district (codes "florida_middle") Florida eastern
    ∷ of_district (codes "florida_northern") Florida eastern
    ∷ of_district (codes "florida_southern") Florida eastern
    ∷ of_district (codes "georgia_middle") Georgia eastern
    ∷ of_district (codes "georgia_northern") Georgia eastern
    ∷ of_district (codes "georgia_southern") Georgia eastern
    ∷ of_district (codes "guam") Guam chamorro
    ∷ of_district (codes "hawaii") Hawaii hawaiian
    ∷ of_district (codes "idaho") Idaho mountain
    ∷ of_district (codes "illinois_central") Illinois central
    ∷ of_district (codes "illinois_northern") Illinois central
    ∷ of_district (codes "illinois_southern") Illinois central
    ∷ of_district (codes "indiana_northern") Indiana eastern
    ∷ of_district (codes "indiana_southern") Indiana eastern
    ∷ of_district (codes "iowa_northern") Iowa central
    ∷ of_district (codes "iowa_southern") Iowa central
    ∷ of_district (codes "kansas") Kansas central
    ∷ of_district (codes "kentucky_eastern") Kentucky eastern
    ∷ of_district (codes "kentucky_western") Kentucky eastern
    ∷ of_district (codes "louisiana_eastern") Louisiana central
    ∷ of_district (codes "louisiana_middle") Louisiana central
    ∷ of_district (codes "louisiana_western") Louisiana central
    ∷ of_district (codes "maine") Maine eastern
    ∷ of_district (codes "maryland") Maryland eastern
    ∷ of_district (codes "massachusetts") Massachusetts eastern
    ∷ of_district (codes "michigan_eastern") Michigan eastern
    ∷ of_district (codes "michigan_western") Michigan eastern
    ∷ of_district (codes "minnesota") Minnesota central
    ∷ of_district (codes "mississippi_northern") Mississippi central
    ∷ of_district (codes "mississippi_southern") Mississippi central
    ∷ of_district (codes "missouri_eastern") Missouri central
    ∷ of_district (codes "missouri_western") Missouri central
    ∷ of_district (codes "montana") Montana mountain
    ∷ of_district (codes "nebraska") Nebraska central
    ∷ of_district (codes "nevada") Nevada pacific
    ∷ of_district (codes "new_hampshire") NewHampshire eastern
    ∷ of_district (codes "new_jersey") NewJersey eastern
    ∷ of_district (codes "new_mexico") NewMexico mountain
    ∷ of_district (codes "new_york_eastern") NewYork eastern
    ∷ of_district (codes "new_york_northern") NewYork eastern
    ∷ of_district (codes "new_york_southern") NewYork eastern
    ∷ of_district (codes "new_york_western") NewYork eastern
    ∷ of_district (codes "north_carolina_eastern") NorthCarolina eastern
    ∷ of_district (codes "north_carolina_middle") NorthCarolina eastern
    ∷ of_district (codes "north_carolina_western") NorthCarolina eastern
    ∷ of_district (codes "north_dakota") NorthDakota central
    ∷ of_district (codes "northern_mariana_islands") NorthernMarianaIslands chamorro
    ∷ of_district (codes "ohio_northern") Ohio eastern
    ∷ of_district (codes "ohio_southern") Ohio eastern
    ∷ of_district (codes "oklahoma_eastern") Oklahoma central
    ∷ of_district (codes "oklahoma_northern") Oklahoma central
    ∷ of_district (codes "oklahoma_western") Oklahoma central
    ∷ of_district (codes "oregon") Oregon pacific
    ∷ of_district (codes "pennsylvania_eastern") Pennsylvania eastern
    ∷ of_district (codes "pennsylvania_middle") Pennsylvania eastern
    ∷ of_district (codes "pennsylvania_western") Pennsylvania eastern
    ∷ of_district (codes "puerto_rico") PuertoRico atlantic
    ∷ of_district (codes "rhode_island") RhodeIsland eastern
    ∷ of_district (codes "south_carolina") SouthCarolina eastern
    ∷ of_district (codes "south_dakota") SouthDakota central
    ∷ of_district (codes "tennessee_eastern") Tennessee eastern
    ∷ of_district (codes "tennessee_middle") Tennessee central
    ∷ of_district (codes "tennessee_western") Tennessee central
    ∷ of_district (codes "texas_eastern") Texas central
    ∷ of_district (codes "texas_northern") Texas central
    ∷ of_district (codes "texas_southern") Texas central
    ∷ of_district (codes "texas_western") Texas central
    ∷ of_district (codes "utah") Utah mountain
    ∷ of_district (codes "vermont") Vermont eastern
    ∷ of_district (codes "virgin_islands") VirginIslands atlantic
    ∷ of_district (codes "virginia_eastern") Virginia eastern
    ∷ of_district (codes "virginia_western") Virginia eastern
    ∷ of_district (codes "washington_eastern") Washington pacific
    ∷ of_district (codes "washington_western") Washington pacific
    ∷ of_district (codes "west_virginia_northern") WestVirginia eastern
    ∷ of_district (codes "west_virginia_southern") WestVirginia eastern
    ∷ of_district (codes "wisconsin_eastern") Wisconsin central
    ∷ of_district (codes "wisconsin_western") Wisconsin central
    ∷ of_district (codes "wyoming") Wyoming mountain
    ∷ [])

-- the district court with a code, if there is one
unfoldable pub district_named : List ℕ → Option District
district_named code = find (λ d. bytes_eq d.code code) districts
