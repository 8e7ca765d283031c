-- What a court's file says of the days that it lists: a line of each in its list, with the holiday's name, and one in the table of
-- names, with the name and the law that makes the day a holiday.
use Rattle.std.specs.Prelude.{◌≡◌, ◌==◌, ℕ, zero, suc, ◌+◌, ◌-◌, ℤ, pos, ◌+ℤ◌, ◌-ℤ◌, Bool, true, false, is_some, List, [], ◌∷◌, ◌++◌, codes, Option, Some, None, option_map, if◌then◌else◌}
use Rattle.std.specs.Fmt.{decimal}
use Rattle.court_clock.specs.Words.{day_text, days_through, weekday_of}
use Rattle.court_days.specs.declared.holiday_list.HolidayList.{HolidayList}
use Rattle.court_days.specs.declared.holiday_list.HolidayList.TheVariants as list
use Rattle.court_holidays.specs.Federal.Words.{federal_statute, holiday_on, law_in_place, statute_name}
use Rattle.court_holidays.specs.States.Words.{holiday_of, is_doubtful, is_set_on, on, state_holiday_name, state_statute}
use Rattle.court_holidays.specs.declared.states.state.State.{State}
use Rattle.court_writing.specs.Sources.{list_source}
use Rattle.court_writing.specs.Listed.{federal_on, is_in_capital, or_else, state_on}
use Rattle.court_writing.specs.declared.holiday.Holiday.{Holiday}
use Rattle.court_writing.specs.declared.holiday.Holiday.TheVariants.{Federal, OfState}
use Rattle.court_writing.specs.declared.lines.Line.{Line}
use Rattle.court_writing.specs.declared.lines.Line.TheVariants.{Listed, Named}

-- the holiday that a list has on a day
abbrev pub listed_on : State → HolidayList → ℤ → Option Holiday
listed_on state list.Federal d = option_map Federal (federal_on state d)
listed_on state list.State d = option_map OfState (state_on state d)

-- its name is that of the definition which gives the day
abbrev pub name_of : Holiday → List ℕ
name_of (Federal holiday) = statute_name holiday
name_of (OfState listed) = state_holiday_name (holiday_of listed)

-- the law sets the day itself for it, and no other in whose place the day is
abbrev pub is_set : State → ℤ → Holiday → Bool
is_set state d (Federal holiday) = is_some (holiday_on d (is_in_capital state))
is_set state d (OfState listed) = is_set_on d (holiday_of listed)

-- the law that makes the day a holiday: a state's statute also has the days that are in the place of others
abbrev pub law_of : State → ℤ → Holiday → List ℕ
law_of state d (Federal holiday) = if is_set state d (Federal holiday) then federal_statute holiday else law_in_place d
law_of state d (OfState listed) = state_statute state

abbrev pub is_doubted : Holiday → Bool
is_doubted (Federal holiday) = false
is_doubted (OfState listed) = is_doubtful listed

-- the day in whose place it is: the Saturday after a Friday, or else the Sunday before
abbrev pub place_text : Bool → ℤ → List ℕ
place_text true d = []
place_text false d =
    if weekday_of d == 4 then codes " (for Saturday, " ++ day_text (d +ℤ pos 1) ++ codes ")"
    else codes " (for Sunday, " ++ day_text (d -ℤ pos 1) ++ codes ")"

abbrev pub observed_text : Bool → List ℕ
observed_text true = []
observed_text false = codes ", observed"

-- what is said of a day in doubt in its list, and in the table of names
abbrev pub doubt_text : Bool → List ℕ
doubt_text true = codes "; doubtful, for the court to say"
doubt_text false = []

abbrev pub mark_text : Bool → List ℕ
mark_text true = codes " (doubtful)"
mark_text false = []

-- as `    "2027-07-05", # Independence Day (for Sunday, 2027-07-04)`
abbrev pub list_line : State → ℤ → Holiday → List ℕ
list_line state d holiday =
    codes "    \"" ++ day_text d ++ codes "\", # " ++ name_of holiday ++ place_text (is_set state d holiday) d
    ++ doubt_text (is_doubted holiday) ++ codes "\n"

-- as `2027-07-05 = "Independence Day, observed" # Executive Order 11582`
abbrev pub name_line : State → ℤ → Holiday → List ℕ
name_line state d holiday =
    day_text d ++ codes " = \"" ++ name_of holiday ++ observed_text (is_set state d holiday)
    ++ mark_text (is_doubted holiday) ++ codes "\" # " ++ law_of state d holiday ++ codes "\n"

-- the line of a day, if it's listed: in one of the lists, or in the table of names, which has the days of both
abbrev pub line_if : (Holiday → List ℕ) → Option Holiday → List ℕ
line_if line None = []
line_if line (Some holiday) = line holiday

abbrev pub line_on : State → Line → ℤ → List ℕ
line_on state (Listed list) d = line_if (list_line state d) (listed_on state list d)
line_on state Named d = line_if (name_line state d) (or_else (listed_on state list.Federal d) (listed_on state list.State d))

-- those of a number of days from a first one
unfoldable pub lines_from : State → Line → ℤ → ℕ → List ℕ
lines_from state line first zero = []
lines_from state line first (suc n) = lines_from state line first n ++ line_on state line (first +ℤ pos n)

-- those of the days from one to another
abbrev pub lines_through : State → Line → ℤ → ℤ → List ℕ
lines_through state line first last = lines_from state line first (days_through first last)

-- a list's lines of a year, after one with the year where there are some
abbrev pub year_lines : ℕ → List ℕ → List ℕ
year_lines year [] = []
year_lines year (first ∷ rest) = codes "    # " ++ decimal year ++ codes "\n" ++ first ∷ rest

abbrev pub lines_of_year : State → HolidayList → ℕ → List ℕ
lines_of_year state list year = year_lines year (lines_through state (Listed list) (on 1 1 (pos year)) (on 12 31 (pos year)))

-- of a number of years from a first one
unfoldable pub years_from : State → HolidayList → ℕ → ℕ → List ℕ
years_from state list first zero = []
years_from state list first (suc n) = years_from state list first n ++ lines_of_year state list (first + n)

-- a list with what it begins with and what is said of it
abbrev pub list_begin : HolidayList → List ℕ
list_begin list.Federal = codes "federal = [\n"
list_begin list.State = codes "# Holidays of the state count only in periods measured after an event, Rule 6(a)(6)(C).\nstate = [\n"

abbrev pub list_text : State → HolidayList → (note : List ℕ) → (from to : ℕ) → List ℕ
list_text state list note from to =
    list_source state list ++ note ++ list_begin list ++ years_from state list from (to + 1 - from) ++ codes "]\n"

-- the text of a file: its head, each list with what is said of it, the judges and rooms, and the table of names
pub record IsTextOf (state : State) (from to : ℕ) (text : List ℕ) : Type 0 where
  pub head : List ℕ
  pub federal_note : List ℕ
  pub state_note : List ℕ
  pub judges_and_rooms : List ℕ
  pub is : text ≡ head ++ list_text state list.Federal federal_note from to ++ codes "\n" ++ list_text state list.State state_note from to ++ judges_and_rooms ++ lines_through state Named (on 1 1 (pos from)) (on 12 31 (pos to))
