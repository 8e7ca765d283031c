-- What the definitions come to.
use Rattle.std.specs.Prelude.{◌≡◌, ◌⊎◌, ℕ, ◌==◌, ◌≤◌, false, List, [], ◌∷◌, ℤ, length, take, Some, None}
use Rattle.row_fields.specs.declared.said.Said.TheVariants.{Clear}
use Rattle.row_fields.specs.declared.dates.DateOrder.TheVariants.{MonthFirst, DayFirst}
use Rattle.row_fields.specs.Dates.{date_said, date_words, day_alone, day_said}
use Rattle.row_fields.specs.Letters.{bare, folded}
use Rattle.row_fields.specs.Line.{count_outside, place_in}
use Rattle.row_fields.specs.Months.{month_named}
use Rattle.row_fields.specs.Numbers.{numbers_in}

-- a text is a date in numbers, with the year at the end: `9/2/2025`
pub record IsInNumbers (text first second year : List ℕ) : Type 0 where
  pub words : date_words text ≡ first ∷ second ∷ year ∷ []
  pub number : month_named first ≡ None
  pub other : month_named second ≡ None
  pub ends : (length first == 4) ≡ false

-- A date in numbers is read in the order that is named, and in no other.
abbrev pub OrderIsKept : Type 0
OrderIsKept = (text first second year : List ℕ) → IsInNumbers text first second year →
    (date_said (Some MonthFirst) text ≡ day_alone (day_said year first second)) × (date_said (Some DayFirst) text ≡ day_alone (day_said year second first))

-- Where no order is named, it is read as a day only if no reading gives another day.
abbrev pub NoOtherReading : Type 0
NoOtherReading = (text first second year : List ℕ) (day : ℤ) → IsInNumbers text first second year → date_said None text ≡ Clear day →
    (other : ℤ) → (day_said year first second ≡ Some other) ⊎ (day_said year second first ≡ Some other) → other ≡ day

-- As many separating marks come before a field's place as there are fields before it. (A mark is no blank.)
abbrev pub PlacesFollowTheirMarks : Type 0
PlacesFollowTheirMarks = (mark number : ℕ) (line : List ℕ) → (mark ≡ 32 → ⊥) → number ≤ count_outside mark false line → count_outside mark false (take (place_in mark number line) line) ≡ number

-- Each number of a text stays whole, and no two become one, where blanks, dots and other signs are left out.
abbrev pub NumbersStayWhole : Type 0
NumbersStayWhole = (text : List ℕ) → (numbers_in (bare text) ≡ numbers_in text) × (numbers_in (folded text) ≡ numbers_in text)
