-- The days of one court: the span that its file covers, its holidays, and when the clerk's office was inaccessible.
pub mod Search
pub mod Rolled
pub mod Table
pub mod Marks
use Rattle.std.specs.Prelude.{ℕ, ℤ, ◌≤ℤ◌, ◌&&◌, ◌||◌, not, int_le, Bool, true, false, List, [], ◌∷◌, ◌++◌, filter, if◌then◌else◌}
use Rattle.std.specs.Ordering.{int_eq}
use Rattle.std.specs.List.{list_any}
use Rattle.court_clock.specs.Words.{is_weekend, IsDayNumber}
use Rattle.court_clock.specs.declared.direction.Direction.{Direction}
use Rattle.court_clock.specs.declared.direction.Direction.TheVariants.{After, Before}
use Rattle.court_days.specs.declared.holiday_list.HolidayList.{HolidayList}
use Rattle.court_days.specs.declared.holiday_list.HolidayList.TheVariants.{Federal, State}

-- the clerk's office is inaccessible on this day from one minute of the day up to another, which is not included
pub record OutageView : Type 0 where
  pub day : ℤ
  pub from : ℕ
  pub to : ℕ

-- the first and the last day covered, the dates of the two holiday lists, each once, and the outages as they were entered
pub record DaysView : Type 0 where
  pub from : ℤ
  pub to : ℤ
  pub federal : List ℤ
  pub state : List ℤ
  pub outages : List OutageView

-- the span from a first day through a last one
pub record IsSpan (first last : ℤ) : Type 0 where
  pub ordered : first ≤ℤ last
  pub first_is_day : IsDayNumber first
  pub last_is_day : IsDayNumber last

-- the day is in the span
abbrev pub is_covered : DaysView → ℤ → Bool
is_covered c d = int_le c.from d && int_le d c.to

-- the day is in the list
abbrev pub is_among : List ℤ → ℤ → Bool
is_among days d = list_any (int_eq d) days

-- a legal holiday (Fed. R. Civ. P. 6(a)(6)): a federal one, and for a period measured after an event a state one too
abbrev pub is_holiday : DaysView → Direction → ℤ → Bool
is_holiday c After d = is_among c.federal d || is_among c.state d
is_holiday c Before d = is_among c.federal d

-- a covered day that is no Saturday, Sunday or legal holiday (Fed. R. Civ. P. 6(a)(1)(C))
unfoldable pub is_permitted : DaysView → Direction → ℤ → Bool
is_permitted c direction d = is_covered c d && (not (is_weekend d) && not (is_holiday c direction d))

-- an outage is on the day
abbrev pub has_outage : DaysView → ℤ → Bool
has_outage c d = list_any (λ o. int_eq o.day d) c.outages

-- a permitted day; where asked, one on which the clerk's office was accessible throughout
abbrev pub is_open : DaysView → Direction → Bool → ℤ → Bool
is_open c direction false d = is_permitted c direction d
is_open c direction true d = is_permitted c direction d && not (has_outage c d)

-- the dates of a holiday list
abbrev pub dates_of : DaysView → HolidayList → List ℤ
dates_of c Federal = c.federal
dates_of c State = c.state

-- the dates and this one, which is kept once
abbrev pub add_date : ℤ → List ℤ → List ℤ
add_date d days = if is_among days d then days else days ++ d ∷ []

-- the calendar with one more date in a holiday list
abbrev pub add_holiday : DaysView → HolidayList → ℤ → DaysView
add_holiday c Federal d = record c { federal = add_date d c.federal }
add_holiday c State d = record c { state = add_date d c.state }

-- the dates without these
abbrev pub drop_dates : (dropped : List ℤ) → List ℤ → List ℤ
drop_dates dropped days = filter (λ d. not (is_among dropped d)) days

-- the calendar without these dates in a holiday list
abbrev pub without_dates : DaysView → HolidayList → (dropped : List ℤ) → DaysView
without_dates c Federal dropped = record c { federal = drop_dates dropped c.federal }
without_dates c State dropped = record c { state = drop_dates dropped c.state }

-- the calendar with one more outage, after the others
abbrev pub add_outage : DaysView → OutageView → DaysView
add_outage c o = record c { outages = c.outages ++ o ∷ [] }
