-- The day on which a holiday is observed that is on a Saturday or a Sunday.
--
-- Rule 6(a)(6)(A) counts 'the day set aside by statute for observing' a holiday, which is the day that 5 U.S.C. 6103(a) names.
-- On a Saturday or a Sunday it changes no period, because no period ends on these days in any case (6(a)(1)(C)). The Friday
-- before a Saturday is a legal holiday for the pay and leave of employees (6103(b)(1)), and the Monday after a Sunday is given
-- to them by Executive Order 11582 of 1971 (for 1970 by Executive Order 10358). Rule 6 names neither. Whether a court takes
-- them as legal holidays, because it closes or as declared by the President or Congress (6(a)(6)(B)), is for the court to say.
-- So these days are kept apart from those set by law.
--
-- Inauguration Day has no other day: 6103(c) itself moves it from a Sunday.
use Rattle.std.specs.Prelude.{◌≡◌, ◌↔◌, ◌==◌, ℤ, pos, ◌+ℤ◌, ◌-ℤ◌, false, ℕ, List, codes, Option, Some, None, if◌then◌else◌}
use Rattle.court_clock.specs.Words.{weekday_of}
use Rattle.court_holidays.specs.Federal.Calendar.{holiday_on, is_kept}
use Rattle.court_holidays.specs.declared.federal.statute.FederalHoliday.{FederalHoliday}

-- the day beside a weekend that is in the place of one of its days: of a Saturday the Friday before, of a Sunday the Monday
-- after
abbrev pub beside_weekend : ℤ → Option ℤ
beside_weekend d =
    if weekday_of d == 5 then Some (d -ℤ pos 1)
    else if weekday_of d == 6 then Some (d +ℤ pos 1)
    else None

-- the day on which a holiday of that day is observed in its place, if it's one that each court has
unfoldable pub observed_for : FederalHoliday → ℤ → Option ℤ
observed_for holiday d = if is_kept false holiday then beside_weekend d else None

-- the holiday that is observed on a day in the place of the day set by law
unfoldable pub observed_on : ℤ → Option FederalHoliday
observed_on d =
    if weekday_of d == 4 then holiday_on (d +ℤ pos 1) false
    else if weekday_of d == 0 then holiday_on (d -ℤ pos 1) false
    else None

-- the law that has a holiday observed on a Friday, in place of the Saturday, or on a Monday, in place of the Sunday
abbrev pub law_in_place : ℤ → List ℕ
law_in_place d = if weekday_of d == 4 then codes "5 U.S.C. 6103(b)(1)" else codes "Executive Order 11582"

-- what they mean together: a holiday is observed on the day in whose place it is
abbrev pub ObservedAreInPlace : Type 0
ObservedAreInPlace = (d : ℤ) (h : FederalHoliday) → (observed_on d ≡ Some h) ↔ ((e : ℤ) × ((holiday_on e false ≡ Some h) × (observed_for h e ≡ Some d)))
