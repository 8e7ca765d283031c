-- What the entry of a day says.
use Rattle.std.proofs.Common.{◌≡◌, ◌<◌, ◌≤ℤ◌, inl, inr, ℕ, ◌==◌, ℤ, pos, ◌+ℤ◌, ◌-ℤ◌, true, false, List, get_or, Option, Some, None, IfSome, refl, sym, ap, ◌∙◌, arith}
use Rattle.std.proofs.lemmas.Int.{ints}
use Rattle.std.proofs.lemmas.Bool.{cases_Bool}
use Rattle.court_clock.specs.Words.{IsDayNumber, counted_from, days_through}
use Rattle.court_clock.specs.declared.direction.Direction.{Direction}
use Rattle.court_clock.specs.declared.direction.Direction.TheVariants.{After, Before}
use Rattle.court_days.specs.declared.holiday_list.HolidayList.{HolidayList}
use Rattle.court_days.specs.declared.holiday_list.HolidayList.TheVariants.{Federal, State}
use Rattle.court_days.specs.Days.{DaysView, OutageView, IsSpan, is_covered, is_permitted, add_holiday}
use Rattle.court_days.specs.Days.Search.{earliest_day, latest_day}
use Rattle.court_days.specs.Days.Rolled.{rolled}
use Rattle.court_days.specs.Days.Table.{entry_day, with_outages, day_at, IsTable}
use Rattle.court_days.proofs.DaysLemmas.SearchLemmas.{earliest_finds, latest_finds, covered_after_from, covered_before_to}
use Rattle.court_days.proofs.DaysLemmas.RolledLemmas.{rolled_law, permitted_is_covered}

-- rolling doesn't look at outages
pub rolled-outages : (c : DaysView) (outages : List OutageView) (d : ℤ) (direction : Direction) → rolled (with_outages c outages) d direction ≡ rolled c d direction
unfolding rolled earliest_day latest_day is_permitted
rolled-outages c outages d After = refl
rolled-outages c outages d Before = refl

-- a permitted day rolls to itself
rolled-itself : (c : DaysView) (direction : Direction) (d : ℤ) → is_permitted c direction d ≡ true → rolled c d direction ≡ Some d
unfolding rolled
rolled-itself c After d permitted =
    let covered = permitted_is_covered c After d permitted in
    rw covered (earliest_finds c (is_permitted c After) d covered permitted)
rolled-itself c Before d permitted =
    let covered = permitted_is_covered c Before d permitted in
    rw covered (latest_finds c (is_permitted c Before) d covered permitted)

-- a day rolls to a permitted, covered day
pub rolled_is_permitted : (c : DaysView) (d r : ℤ) (direction : Direction) → rolled c d direction ≡ Some r → is_permitted c direction r ≡ true
rolled_is_permitted c d r direction found = ((rolled_law c d r direction).0 found).permitted

pub rolled_is_covered : (c : DaysView) (d r : ℤ) (direction : Direction) → rolled c d direction ≡ Some r → is_covered c r ≡ true
rolled_is_covered c d r direction found = permitted_is_covered c direction r (rolled_is_permitted c d r direction found)

entry_day-zero : (direction : Direction) (d : ℤ) → entry_day direction d 0 ≡ Some d
entry_day-zero After d = ap Some (omega (arith, ints))
entry_day-zero Before d = ap Some (omega (arith, ints))

entry_day-itself : (direction : Direction) (d : ℤ) (entry : ℕ) → entry_day direction d entry ≡ Some d → (entry == 0) ≡ true
entry_day-itself direction d entry same = elim (cases_Bool (entry == 65535)) [
  | inl none ↦ (let clash : None ≡ Some d = rw none at same in absurd cc)
  | inr some ↦ by_direction direction (rw some at same)
]
  where
    by_direction : (direction : Direction) → Some (counted_from d entry direction) ≡ Some d → (entry == 0) ≡ true
    by_direction After same = (let equal : d +ℤ pos entry ≡ d = cc in let none : entry ≡ 0 = omega (arith, ints, equal) in rw none refl)
    by_direction Before same = (let equal : d -ℤ pos entry ≡ d = cc in let none : entry ≡ 0 = omega (arith, ints, equal) in rw none refl)

-- a day is permitted just where its entry is zero
pub permitted_by_entry : (c : DaysView) (direction : Direction) (d : ℤ) (entry : ℕ) → entry_day direction d entry ≡ rolled c d direction → (entry == 0) ≡ is_permitted c direction d
permitted_by_entry c direction d entry same = elim (cases_Bool (is_permitted c direction d)) [
  | inl permitted ↦ rw permitted (entry_day-itself direction d entry (same ∙ rolled-itself c direction d permitted))
  | inr closed ↦ elim (cases_Bool (entry == 0)) [
    | inl zero_entry ↦
        let none : entry ≡ 0 = grind arith in
        let found : rolled c d direction ≡ Some d = sym same ∙ rw none (entry_day-zero direction d) in
        let clash : true ≡ false = sym (rolled_is_permitted c d d direction found) ∙ closed in
        absurd cc
    | inr other ↦ rw (other, closed) refl
  ]
]

pub uncovered_by_entry : (c : DaysView) (direction : Direction) (d : ℤ) → is_covered c d ≡ false → false ≡ is_permitted c direction d
unfolding is_permitted
uncovered_by_entry c direction d uncovered = rw uncovered refl

-- an uncovered day rolls to none
pub rolled_uncovered : (c : DaysView) (d : ℤ) (direction : Direction) → is_covered c d ≡ false → rolled c d direction ≡ None
unfolding rolled
rolled_uncovered c d After uncovered = rw uncovered refl
rolled_uncovered c d Before uncovered = rw uncovered refl

-- the table's entry of a day stands for its rolled day
pub entry_in_table : (c : DaysView) (outages : List OutageView) (direction : Direction) (d : ℤ) (k : ℕ) (entries : List ℕ) → IsTable c direction entries → k < days_through c.from c.to → d ≡ day_at c direction k → entry_day direction d (get_or entries k 0) ≡ rolled (with_outages c outages) d direction
entry_in_table c outages direction d k entries table within place =
    let here : entry_day direction (day_at c direction k) (get_or entries k 0) ≡ rolled c (day_at c direction k) direction = table.rolled k (omega (arith, within, table.whole)) in
    rw (rolled-outages c outages d direction, place) here

-- a rolled day is a day's number
pub rolled_is_number : (c : DaysView) (d : ℤ) (direction : Direction) → IsSpan c.from c.to → IfSome (rolled c d direction) IsDayNumber
rolled_is_number c d direction span = by_answer (rolled c d direction) refl
  where
    by_answer : (answer : Option ℤ) → rolled c d direction ≡ answer → IfSome answer IsDayNumber
    by_answer None found = tt
    by_answer (Some n) found =
        let covered = rolled_is_covered c d n direction found in
        let low : c.from ≤ℤ n = covered_after_from c n covered in
        let high : n ≤ℤ c.to = covered_before_to c n covered in
        let first = span.first_is_day in
        let last = span.last_is_day in
        record { low = omega (arith, ints, low, first.low); high = omega (arith, ints, high, last.high) }

-- holidays and outages are entered apart
pub holiday-outages : (c : DaysView) (outages : List OutageView) (list : HolidayList) (d : ℤ) → with_outages (add_holiday c list d) outages ≡ add_holiday (with_outages c outages) list d
holiday-outages c outages Federal d = refl
holiday-outages c outages State d = refl
