-- A table that says for each covered day how far it is from the day to which it rolls.
use Rattle.std.specs.Prelude.{◌≡◌, ◌<◌, ◌≤◌, ℕ, zero, suc, ◌==◌, ℤ, pos, ◌+ℤ◌, ◌-ℤ◌, Bool, true, false, ◌&&◌, not, List, length, slice_index, Option, Some, None, if◌then◌else◌}
use Rattle.court_clock.specs.Words.{counted_from, days_through}
use Rattle.court_clock.specs.declared.direction.Direction.{Direction}
use Rattle.court_clock.specs.declared.direction.Direction.TheVariants.{After, Before}
use Rattle.court_days.specs.declared.holiday_list.HolidayList.{HolidayList}
use Rattle.court_days.specs.declared.holiday_list.HolidayList.TheVariants.{Federal, State}
use Rattle.court_days.specs.Days.{DaysView, OutageView, is_permitted}
use Rattle.court_days.specs.Days.Rolled.{rolled}

-- the covered day at a place of the table: places are counted from the end of the span at which rolling ends
abbrev pub day_at : DaysView → Direction → ℕ → ℤ
day_at c After k = c.to -ℤ pos k
day_at c Before k = c.from +ℤ pos k

-- the day to which d rolls by its entry: the one that many days further in the direction, or none
abbrev pub entry_day : Direction → ℤ → ℕ → Option ℤ
entry_day direction d entry = if entry == 65535 then None else Some (counted_from d entry direction)

-- each entry gives the day to which the day at its place rolls
pub record IsTable (c : DaysView) (direction : Direction) (entries : List ℕ) : Type 0 where
  pub whole : length entries ≡ days_through c.from c.to
  pub short : length entries ≤ 36525
  pub rolled : (k : ℕ) → k < length entries → entry_day direction (day_at c direction k) (slice_index entries k) ≡ rolled c (day_at c direction k) direction

-- the entry at a place, from the entry at the place before it
abbrev pub next_entry : Bool → ℕ → ℕ
next_entry permitted last = if permitted then 0 else (if last == 65535 then 65535 else suc last)

-- the last of the first n entries, from the places whose day is permitted
unfoldable pub last_entry : (ℕ → Bool) → ℕ → ℕ
last_entry test zero = 65535
last_entry test (suc n) = next_entry (test n) (last_entry test n)

-- the entries, from the places whose day is permitted
abbrev pub AreEntries : (ℕ → Bool) → List ℕ → Type 0
AreEntries test entries = (k : ℕ) → k < length entries → slice_index entries k ≡ next_entry (test k) (last_entry test k)

-- the same test, except that one place fails it
abbrev pub closed_at : ℕ → (ℕ → Bool) → ℕ → Bool
closed_at at test k = test k && not (k == at)

-- the day at a place is permitted
abbrev pub permitted_at : DaysView → Direction → ℕ → Bool
permitted_at c direction k = is_permitted c direction (day_at c direction k)

-- the list's dates are holidays for periods of that direction
abbrev pub counts_in : HolidayList → Direction → Bool
counts_in Federal direction = true
counts_in State After = true
counts_in State Before = false

-- the days with these outages
abbrev pub with_outages : DaysView → List OutageView → DaysView
with_outages c outages = record c { outages = outages }

-- there is a table for each direction
pub record HasTables (c : DaysView) (forward backward : List ℕ) : Type 0 where
  pub after : IsTable c After forward
  pub before : IsTable c Before backward
