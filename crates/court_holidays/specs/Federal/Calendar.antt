-- The holidays of a year, and the holiday that a day is.
use Rattle.std.specs.Prelude.{◌≡◌, ◌↔◌, ℤ, Bool, true, false, List, [], ◌∷◌, Option, Some, None, if◌then◌else◌}
use Rattle.std.specs.List.{find}
use Rattle.std.specs.Ordering.{int_eq}
use Rattle.jiff_tz.specs.Year.{year_of_day}
use Rattle.court_holidays.specs.Federal.Statute.{set_in}
use Rattle.court_holidays.specs.declared.federal.statute.FederalHoliday.{FederalHoliday}
use Rattle.court_holidays.specs.declared.federal.statute.FederalHoliday.TheVariants.{NewYearsDay, BirthdayOfMartinLutherKingJr, InaugurationDay, WashingtonsBirthday, MemorialDay, Juneteenth, IndependenceDay, LaborDay, ColumbusDay, VeteransDay, ThanksgivingDay, ChristmasDay}

-- all, in the order of their days
abbrev pub all_holidays : List FederalHoliday
all_holidays =
    (NewYearsDay ∷ BirthdayOfMartinLutherKingJr ∷ InaugurationDay ∷ WashingtonsBirthday ∷ MemorialDay ∷ Juneteenth
    ∷ IndependenceDay ∷ LaborDay ∷ ColumbusDay ∷ VeteransDay ∷ ThanksgivingDay ∷ ChristmasDay ∷ [])

-- whether a court has the holiday: Inauguration Day is one in the capital's region only
abbrev pub is_kept : Bool → FederalHoliday → Bool
is_kept capital InaugurationDay = capital
is_kept capital holiday = true

-- the day of the holiday in a year, at a court that has it
abbrev pub kept_on : Bool → ℤ → FederalHoliday → Option ℤ
kept_on capital year holiday = if is_kept capital holiday then set_in holiday year else None

-- whether it's that day
abbrev pub is_day : ℤ → Option ℤ → Bool
is_day d None = false
is_day d (Some e) = int_eq e d

-- the holiday that a day is by law
unfoldable pub holiday_on : ℤ → Bool → Option FederalHoliday
holiday_on d capital = find (λ h. is_day d (kept_on capital (year_of_day d) h)) all_holidays

-- what it means: at a court outside the capital's region, a day is the holiday, but for Inauguration Day, that the law sets on
-- that day for some year
abbrev pub DaysAreTheirHolidays : Type 0
DaysAreTheirHolidays = (d : ℤ) (h : FederalHoliday) → (holiday_on d false ≡ Some h) ↔ ((¬ (h ≡ InaugurationDay)) × ((year : ℤ) × (set_in h year ≡ Some d)))
