-- Names of holidays.
use Rattle.std.specs.Prelude.{ℕ, ℤ, Bool, true, false, ◌||◌, List, [], ◌∷◌, ◌++◌, Option, Some, None, codes, if◌then◌else◌}
use Rattle.std.specs.Ordering.{int_eq}
use Rattle.std.specs.Str.{bytes_eq}
use Rattle.court_holidays.specs.declared.federal.statute.FederalHoliday.{FederalHoliday}
use Rattle.court_holidays.specs.declared.federal.statute.FederalHoliday.TheVariants.{Juneteenth}
use Rattle.court_holidays.specs.Federal.Words.{holiday_on, observed_on, statute_name}

-- a day and its name
pub record NamedDay : Type 0 where
  pub day : ℤ
  pub name : List ℕ

-- the first name that a day has in a list, if it has one
abbrev pub name_on : List NamedDay → ℤ → Option (List ℕ)
name_on [] day = None
name_on (n ∷ names) day = if int_eq n.day day then Some n.name else name_on names day

-- the name of a holiday as it is called where another word follows
abbrev pub short_name : FederalHoliday → List ℕ
short_name Juneteenth = codes "Juneteenth"
short_name holiday = statute_name holiday

-- the holiday that is observed on a day in place of the day set by law, or else what any holiday is called
abbrev pub observed_text : Option FederalHoliday → List ℕ
observed_text (Some holiday) = short_name holiday ++ codes ", observed"
observed_text None = codes "legal holiday"

-- the holiday that the law sets on a day, or else another text
abbrev pub set_text : Option FederalHoliday → List ℕ → List ℕ
set_text (Some holiday) other = statute_name holiday
set_text None other = other

-- what a day of the federal list is called by law; a court that has Inauguration Day in its list keeps it
abbrev pub legal_text : ℤ → List ℕ
legal_text day = set_text (holiday_on day true) (observed_text (observed_on day))

-- a name is that of the holiday, as the statute or we call it
abbrev pub is_name_of : Option FederalHoliday → (name : List ℕ) → Bool
is_name_of None name = false
is_name_of (Some holiday) name = bytes_eq name (statute_name holiday) || bytes_eq name (short_name holiday)

-- The name that a court's file gives a day of the federal list. Where the holiday of that name is observed on the day in place of
-- the day set by law, that is said too.
abbrev pub federal_name : (day : ℤ) → (name : List ℕ) → List ℕ
federal_name day name = if is_name_of (observed_on day) name then name ++ codes ", observed" else name
