-- The table of rolled days: how it is made from one place to the next, and what becomes of it where one day is closed.
use Rattle.std.proofs.Common.{add-one, ◌≡◌, ◌⊎◌, inl, inr, ◌<◌, ◌≤◌, ℕ, zero, suc, ◌+◌, ◌==◌, ℤ, pos, ◌+ℤ◌, ◌-ℤ◌, Bool, true, false, List, [], ◌∷◌, ◌++◌, length, get_or, Some, None, refl, sym, ap, subst, ◌∙◌, arith}
use Rattle.std.proofs.lemmas.Int.{ints}
use Rattle.std.proofs.lemmas.Bool.{cases_Bool, cases_lt}
use Rattle.std.proofs.lemmas.List.{get_or_append_left, get_or_push, length_push}
use Rattle.court_clock.specs.Words.{counted_from, days_through}
use Rattle.court_clock.specs.declared.direction.Direction.{Direction}
use Rattle.court_clock.specs.declared.direction.Direction.TheVariants.{After, Before}
use Rattle.court_clock.proofs.CallerLemmas.{place_from_first, place_from_last}
use Rattle.court_days.specs.Days.{DaysView, is_covered, is_permitted}
use Rattle.court_days.specs.Days.Rolled.{rolled}
use Rattle.court_days.specs.Days.Table.{day_at, entry_day, IsTable, next_entry, last_entry, AreEntries, permitted_at}
use Rattle.court_days.proofs.DaysLemmas.SearchLemmas.{covered_from_bounds, earliest_skips, earliest_finds, earliest_stops, latest_skips, latest_finds, latest_stops}

-- places of the table are covered days
pub place_is_covered : (c : DaysView) (direction : Direction) (k : ℕ) → k < days_through c.from c.to → is_covered c (day_at c direction k) ≡ true
place_is_covered c After k h = covered_from_bounds c (c.to -ℤ pos k) (place_from_last c.from c.to k h) (omega (arith, ints))
place_is_covered c Before k h = covered_from_bounds c (c.from +ℤ pos k) (omega (arith, ints)) (place_from_first c.from c.to k h)

-- what rolling does at a place, from what it does at the place before it
rolled_permitted : (c : DaysView) (direction : Direction) (k : ℕ) → k < days_through c.from c.to → permitted_at c direction k ≡ true → rolled c (day_at c direction k) direction ≡ Some (day_at c direction k)
unfolding rolled
rolled_permitted c After k h permitted =
    let covered = place_is_covered c After k h in
    rw covered (earliest_finds c (is_permitted c After) (c.to -ℤ pos k) covered permitted)
rolled_permitted c Before k h permitted =
    let covered = place_is_covered c Before k h in
    rw covered (latest_finds c (is_permitted c Before) (c.from +ℤ pos k) covered permitted)

rolled_first : (c : DaysView) (direction : Direction) → 0 < days_through c.from c.to → permitted_at c direction 0 ≡ false → rolled c (day_at c direction 0) direction ≡ None
unfolding rolled
rolled_first c After h closed =
    let covered = place_is_covered c After 0 h in
    rw covered (earliest_stops c (is_permitted c After) (c.to -ℤ pos 0) covered closed (omega (arith, ints)))
rolled_first c Before h closed =
    let covered = place_is_covered c Before 0 h in
    rw covered (latest_stops c (is_permitted c Before) (c.from +ℤ pos 0) covered closed (omega (arith, ints)))

rolled_closed : (c : DaysView) (direction : Direction) (k : ℕ) → suc k < days_through c.from c.to → permitted_at c direction (suc k) ≡ false → rolled c (day_at c direction (suc k)) direction ≡ rolled c (day_at c direction k) direction
unfolding rolled
rolled_closed c After k h closed =
    let covered = place_is_covered c After (suc k) h in
    let before = place_is_covered c After k (omega arith) in
    rw (covered, before) (sym (earliest_skips c (is_permitted c After) (c.to -ℤ pos (suc k)) (c.to -ℤ pos k) covered closed (omega (arith, ints))))
rolled_closed c Before k h closed =
    let covered = place_is_covered c Before (suc k) h in
    let before = place_is_covered c Before k (omega arith) in
    rw (covered, before) (sym (latest_skips c (is_permitted c Before) (c.from +ℤ pos (suc k)) (c.from +ℤ pos k) covered closed (omega (arith, ints))))

-- no entry leads beyond the end of the span
pub last_entry-bound : (test : ℕ → Bool) (n : ℕ) → (last_entry test n ≡ 65535) ⊎ (last_entry test n < n)
unfolding last_entry
last_entry-bound test zero = inl refl
last_entry-bound test (suc n) = elim (cases_Bool (test n)) [
  | inl permitted ↦ inr (rw permitted (omega arith))
  | inr closed ↦ elim (last_entry-bound test n) [
    | inl none ↦ inl (rw (closed, none) refl)
    | inr some ↦ elim (cases_Bool (last_entry test n == 65535)) [
      | inl last ↦ inl (rw (closed, last) refl)
      | inr other ↦ inr (rw (closed, other) (omega (arith, some)))
    ]
  ]
]

pub last_entry-next : (test : ℕ → Bool) (n : ℕ) → last_entry test (n + 1) ≡ next_entry (test n) (last_entry test n)
unfolding last_entry
last_entry-next test n = rw add-one refl

-- an entry one day further on stands for the same day
entry_day-further : (c : DaysView) (direction : Direction) (k e : ℕ) → (e ≡ 65535) ⊎ (e < suc k) → k < 36525 → entry_day direction (day_at c direction (suc k)) (next_entry false e) ≡ entry_day direction (day_at c direction k) e
entry_day-further c direction k e (inl none) short = rw none refl
entry_day-further c After k e (inr some) short =
    let this : (e == 65535) ≡ false = grind arith in
    let that : (suc e == 65535) ≡ false = grind arith in
    let same : (c.to -ℤ pos (suc k)) +ℤ pos (suc e) ≡ (c.to -ℤ pos k) +ℤ pos e = omega (arith, ints) in
    rw (this, that) (ap Some same)
entry_day-further c Before k e (inr some) short =
    let this : (e == 65535) ≡ false = grind arith in
    let that : (suc e == 65535) ≡ false = grind arith in
    let same : (c.from +ℤ pos (suc k)) -ℤ pos (suc e) ≡ (c.from +ℤ pos k) -ℤ pos e = omega (arith, ints) in
    rw (this, that) (ap Some same)

entry_day-same : (direction : Direction) (d : ℤ) → entry_day direction d 0 ≡ Some d
entry_day-same After d = ap Some (omega (arith, ints))
entry_day-same Before d = ap Some (omega (arith, ints))

-- the entries made one from the other stand for the rolled days
pub entry_is_rolled : (c : DaysView) (direction : Direction) (k : ℕ) → k < days_through c.from c.to → k < 36525 → entry_day direction (day_at c direction k) (next_entry (permitted_at c direction k) (last_entry (permitted_at c direction) k)) ≡ rolled c (day_at c direction k) direction
unfolding last_entry
entry_is_rolled c direction zero h short = elim (cases_Bool (permitted_at c direction 0)) [
  | inl permitted ↦ rw (permitted) (entry_day-same direction (day_at c direction 0) ∙ sym (rolled_permitted c direction 0 h permitted))
  | inr closed ↦ rw (closed) (sym (rolled_first c direction h closed))
]
entry_is_rolled c direction (suc k) h short = elim (cases_Bool (permitted_at c direction (suc k))) [
  | inl permitted ↦ rw (permitted) (entry_day-same direction (day_at c direction (suc k)) ∙ sym (rolled_permitted c direction (suc k) h permitted))
  | inr closed ↦ rw (closed) (entry_day-further c direction k _ (last_entry-bound (permitted_at c direction) (suc k)) (omega arith) ∙ entry_is_rolled c direction k (omega arith) (omega arith) ∙ sym (rolled_closed c direction k h closed))
]

-- two entries that stand for one day are one
entry-unique : (direction : Direction) (d : ℤ) (a b : ℕ) → entry_day direction d a ≡ entry_day direction d b → a ≡ b
entry-unique direction d a b same = elim (cases_Bool (a == 65535)) [
  | inl first ↦ elim (cases_Bool (b == 65535)) [
    | inl second ↦ grind arith
    | inr second ↦ (let clash : None ≡ Some (counted_from d b direction) = rw (first, second) at same in absurd cc)
  ]
  | inr first ↦ elim (cases_Bool (b == 65535)) [
    | inl second ↦ (let clash : Some (counted_from d a direction) ≡ None = rw (first, second) at same in absurd cc)
    | inr second ↦ (let both : Some (counted_from d a direction) ≡ Some (counted_from d b direction) = rw (first, second) at same in
        let days : counted_from d a direction ≡ counted_from d b direction = cc in
        counted-unique direction days)
  ]
]
  where
    counted-unique : (direction : Direction) → counted_from d a direction ≡ counted_from d b direction → a ≡ b
    counted-unique After days = omega (arith, ints, days)
    counted-unique Before days = omega (arith, ints, days)

pub entries_of_table : (c : DaysView) (direction : Direction) (entries : List ℕ) → IsTable c direction entries → AreEntries (permitted_at c direction) entries
entries_of_table c direction entries table k h =
    let within : k < days_through c.from c.to = omega (arith, table.whole, h) in
    entry-unique direction (day_at c direction k) (get_or entries k 0) _ (table.rolled k h ∙ sym (entry_is_rolled c direction k within (omega (arith, table.short, h))))

pub table_of_entries : (c : DaysView) (direction : Direction) (entries : List ℕ) → length entries ≡ days_through c.from c.to → length entries ≤ 36525 → AreEntries (permitted_at c direction) entries → IsTable c direction entries
table_of_entries c direction entries whole short made = record {
  whole = whole;
  short = short;
  rolled = λ k h.
      let within : k < days_through c.from c.to = omega (arith, whole, h) in
      rw (made k h) (entry_is_rolled c direction k within (omega (arith, short, h)));
}

-- from a place on where two tests have one entry they have the same entries, as far as they agree
pub last_entry-joins : (test other : ℕ → Bool) (m n : ℕ) → m ≤ n → last_entry test m ≡ last_entry other m → ((k : ℕ) → m ≤ k → k < n → test k ≡ other k) → last_entry test n ≡ last_entry other n
unfolding last_entry
last_entry-joins test other m zero h same agree = refl
last_entry-joins test other m (suc n) h same agree = elim (cases_lt n m) [
  | inr before ↦
      let here : test n ≡ other n = agree n (omega arith) (omega arith) in
      let rest : last_entry test n ≡ last_entry other n = last_entry-joins test other m n (omega arith) same (λ k low high. agree k low (omega arith)) in
      rw (here, rest) refl
  | inl at ↦ (let equal : m ≡ suc n = omega arith in
      let IsSame : ℕ → Type 0 = λ j. last_entry test j ≡ last_entry other j in
      subst IsSame equal same)
]

-- one more entry
pub entries_pushed : (test : ℕ → Bool) (entries : List ℕ) (n x : ℕ) → AreEntries test entries → length entries ≡ n → x ≡ next_entry (test n) (last_entry test n) → AreEntries test (entries ++ x ∷ [])
entries_pushed test entries n x made whole next k h = elim (cases_lt k n) [
  | inl below ↦
      let within : k < length entries = omega arith in
      rw (get_or_append_left entries (x ∷ []) 0 k within) (made k within)
  | inr at ↦
      let same : n ≡ k = omega (arith, at, h, whole, length_push entries x) in
      rw (← same, get_or_push entries x 0 n whole) next
]

-- before the first place there is no entry
pub last_entry-zero : (test : ℕ → Bool) → last_entry test 0 ≡ 65535
unfolding last_entry
last_entry-zero test = refl

last_entry-none : (test other : ℕ → Bool) → last_entry test 0 ≡ last_entry other 0
last_entry-none test other = last_entry-zero test ∙ sym (last_entry-zero other)

-- tests that agree have the same entries
pub entries-agree : (test other : ℕ → Bool) (entries : List ℕ) → ((k : ℕ) → k < length entries → test k ≡ other k) → AreEntries test entries → AreEntries other entries
entries-agree test other entries agree made k h =
    let here : test k ≡ other k = agree k h in
    let before : last_entry test k ≡ last_entry other k = last_entry-joins test other 0 k (omega arith) (last_entry-none test other) (λ j _ below. agree j (omega arith)) in
    made k h ∙ rw (here, before) refl
