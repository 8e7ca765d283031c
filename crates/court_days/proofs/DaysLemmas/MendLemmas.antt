-- What becomes of the table of rolled days where one more day is a holiday.
use Rattle.std.proofs.Common.{◌≡◌, inl, inr, ◌<◌, ◌≤◌, ℕ, suc, ◌+◌, ◌==◌, ℤ, Bool, true, false, ◌&&◌, ◌||◌, List, length, get_or, set, get_or-set_other, get_or-set_same, refl, sym, ap, ◌∙◌, arith}
use Rattle.std.proofs.lemmas.Int.{ints}
use Rattle.std.proofs.lemmas.Bool.{cases_Bool, cases_lt, cases_eq}
use Rattle.std.specs.Ordering.{int_eq}
use Rattle.std.specs.Cmp.{int_eq_equiv}
use Rattle.court_clock.specs.Words.{days_through}
use Rattle.court_clock.specs.declared.direction.Direction.{Direction}
use Rattle.court_clock.specs.declared.direction.Direction.TheVariants.{After, Before}
use Rattle.court_days.specs.declared.holiday_list.HolidayList.{HolidayList}
use Rattle.court_days.specs.declared.holiday_list.HolidayList.TheVariants.{Federal, State}
use Rattle.court_days.specs.Days.{DaysView, is_covered, is_among, is_permitted, add_date, add_holiday}
use Rattle.court_days.specs.Days.Table.{day_at, IsTable, next_entry, last_entry, AreEntries, closed_at, permitted_at, counts_in}
use Rattle.court_days.proofs.DaysLemmas.DatesLemmas.{among-push}
use Rattle.court_days.proofs.DaysLemmas.TableLemmas.{last_entry-joins, last_entry-next, last_entry-zero, entries-agree, entries_of_table, table_of_entries}

-- only one place is closed
closed_other : (test : ℕ → Bool) (at k : ℕ) → (k ≡ at → ⊥) → closed_at at test k ≡ test k
closed_other test at k other =
    let differs : (k == at) ≡ false = grind (arith, other) in
    rw differs (and_true (test k))
  where
    and_true : (b : Bool) → (b && true) ≡ b
    and_true true = refl
    and_true false = refl

closed_here : (test : ℕ → Bool) (at : ℕ) → closed_at at test at ≡ false
closed_here test at =
    let same : (at == at) ≡ true = grind arith in
    rw same (and_false (test at))
  where
    and_false : (b : Bool) → (b && false) ≡ false
    and_false true = refl
    and_false false = refl

-- before the closed place the entries stay
last_entry-closed : (test : ℕ → Bool) (at n : ℕ) → n ≤ at → last_entry (closed_at at test) n ≡ last_entry test n
last_entry-closed test at n h = last_entry-joins (closed_at at test) test 0 n (omega arith) (last_entry-zero (closed_at at test) ∙ sym (last_entry-zero test)) (λ k _ below. closed_other test at k (λ same. omega (arith, same, below, h)))

stays_below : (test : ℕ → Bool) (old : List ℕ) (at k : ℕ) → AreEntries test old → at < length old → k < at → get_or old k 0 ≡ next_entry (closed_at at test k) (last_entry (closed_at at test) k)
stays_below test old at k made within below =
    made k (omega arith) ∙ rw (closed_other test at k (λ same. omega (arith, same, below)), last_entry-closed test at k (omega arith)) refl

-- the entry before a place
pub before_first : (test : ℕ → Bool) → 65535 ≡ last_entry test 0
before_first test = sym (last_entry-zero test)

pub before_other : (test : ℕ → Bool) (entries : List ℕ) (at j : ℕ) → AreEntries test entries → j < length entries → at ≡ j + 1 → get_or entries j 0 ≡ last_entry test at
before_other test entries at j made within next = rw next (made j within ∙ sym (last_entry-next test j))

-- the closed place takes the next entry
closes_first : (test : ℕ → Bool) (at last : ℕ) → last ≡ last_entry test at → next_entry false last ≡ next_entry (closed_at at test at) (last_entry (closed_at at test) at)
closes_first test at last so_far = rw (closed_here test at, last_entry-closed test at at (omega arith), so_far) refl

pub mend_begins : (test : ℕ → Bool) (old : List ℕ) (at last k : ℕ) → AreEntries test old → at < length old → last ≡ last_entry test at → k < at + 1 → get_or (set old at (next_entry false last)) k 0 ≡ next_entry (closed_at at test k) (last_entry (closed_at at test) k)
mend_begins test old at last k made within so_far below = elim (cases_eq k at) [
  | inl here ↦ rw here (get_or-set_same old at (next_entry false last) 0 within ∙ closes_first test at last so_far)
  | inr other ↦ get_or-set_other old at k (next_entry false last) 0 other ∙ stays_below test old at k made within (omega (arith, other, below))
]

pub mend_begins_last : (test : ℕ → Bool) (at last : ℕ) → last ≡ last_entry test at → next_entry false last ≡ last_entry (closed_at at test) (at + 1)
mend_begins_last test at last so_far = closes_first test at last so_far ∙ sym (last_entry-next (closed_at at test) at)

pub not_permitted : (test : ℕ → Bool) (old : List ℕ) (k : ℕ) → AreEntries test old → k < length old → (get_or old k 0 ≡ 0 → ⊥) → test k ≡ false
not_permitted test old k made within some = elim (cases_Bool (test k)) [
  | inl permitted ↦ absurd (some (made k within ∙ rw permitted refl))
  | inr closed ↦ closed
]

pub is_permitted_place : (test : ℕ → Bool) (old : List ℕ) (k : ℕ) → AreEntries test old → k < length old → get_or old k 0 ≡ 0 → test k ≡ true
is_permitted_place test old k made within none = elim (cases_Bool (test k)) [
  | inl permitted ↦ permitted
  | inr closed ↦
      let entry : get_or old k 0 ≡ next_entry false (last_entry test k) = made k within ∙ rw closed refl in
      absurd (never (last_entry test k) (sym entry ∙ none))
]
  where
    never : (last : ℕ) → next_entry false last ≡ 0 → ⊥
    never last zero_entry = elim (cases_Bool (last == 65535)) [
      | inl is ↦ (let clash : 65535 ≡ 0 = rw is at zero_entry in absurd (omega (arith, clash)))
      | inr is ↦ (let clash : suc last ≡ 0 = rw is at zero_entry in absurd (omega (arith, clash)))
    ]

-- each place after it whose entry wasn't zero takes the next one too
closes_next : (test : ℕ → Bool) (old : List ℕ) (at k last : ℕ) → AreEntries test old → k < length old → at < k → (get_or old k 0 ≡ 0 → ⊥) → last ≡ last_entry (closed_at at test) k → next_entry false last ≡ next_entry (closed_at at test k) (last_entry (closed_at at test) k)
closes_next test old at k last made within behind some so_far =
    let closed : closed_at at test k ≡ false = closed_other test at k (λ same. omega (arith, same, behind)) ∙ not_permitted test old k made within some in
    rw (closed, so_far) refl

pub mend_goes_on : (test : ℕ → Bool) (old entries : List ℕ) (at n last k : ℕ) → AreEntries test old → n < length old → length entries ≡ length old → at < n → (get_or old n 0 ≡ 0 → ⊥) → last ≡ last_entry (closed_at at test) n
    → ((j : ℕ) → j < n → get_or entries j 0 ≡ next_entry (closed_at at test j) (last_entry (closed_at at test) j))
    → k < n + 1 → get_or (set entries n (next_entry false last)) k 0 ≡ next_entry (closed_at at test k) (last_entry (closed_at at test) k)
mend_goes_on test old entries at n last k made within whole behind some so_far done below = elim (cases_eq k n) [
  | inl here ↦ rw here (get_or-set_same entries n (next_entry false last) 0 (omega (arith, within, whole)) ∙ closes_next test old at n last made within behind some so_far)
  | inr other ↦ get_or-set_other entries n k (next_entry false last) 0 other ∙ done k (omega (arith, other, below))
]

pub mend_goes_on_last : (test : ℕ → Bool) (old : List ℕ) (at n last : ℕ) → AreEntries test old → n < length old → at < n → (get_or old n 0 ≡ 0 → ⊥) → last ≡ last_entry (closed_at at test) n → next_entry false last ≡ last_entry (closed_at at test) (n + 1)
mend_goes_on_last test old at n last made within behind some so_far = closes_next test old at n last made within behind some so_far ∙ sym (last_entry-next (closed_at at test) n)

-- after a permitted day the entries stay
stays_behind : (test : ℕ → Bool) (old : List ℕ) (at n k : ℕ) → AreEntries test old → n < length old → at < n → get_or old n 0 ≡ 0 → n ≤ k → k < length old → get_or old k 0 ≡ next_entry (closed_at at test k) (last_entry (closed_at at test) k)
stays_behind test old at n k made within behind none low high =
    let permitted : test n ≡ true = is_permitted_place test old n made within none in
    let still : closed_at at test n ≡ true = closed_other test at n (λ same. omega (arith, same, behind)) ∙ permitted in
    let here : last_entry (closed_at at test) (n + 1) ≡ last_entry test (n + 1) = last_entry-next (closed_at at test) n ∙ rw (still, permitted) refl ∙ sym (last_entry-next test n) in
    let same : closed_at at test k ≡ test k = closed_other test at k (λ equal. omega (arith, equal, behind, low)) in
    elim (cases_lt n k) [
      | inl later ↦
          let before : last_entry (closed_at at test) k ≡ last_entry test k = last_entry-joins (closed_at at test) test (n + 1) k (omega arith) here (λ j after _. closed_other test at j (λ equal. omega (arith, equal, behind, after))) in
          made k high ∙ rw (same, before) refl
      | inr at_once ↦
          let equal : k ≡ n = omega (arith, low, at_once) in
          rw equal (made n within ∙ rw (still, permitted) refl)
    ]

pub mend_ends : (test : ℕ → Bool) (old entries : List ℕ) (at n : ℕ) → AreEntries test old → n < length old → length entries ≡ length old → at < n → get_or old n 0 ≡ 0
    → ((k : ℕ) → k < n → get_or entries k 0 ≡ next_entry (closed_at at test k) (last_entry (closed_at at test) k))
    → ((k : ℕ) → n ≤ k → get_or entries k 0 ≡ get_or old k 0)
    → AreEntries (closed_at at test) entries
mend_ends test old entries at n made within whole behind none done kept k high = elim (cases_lt k n) [
  | inl below ↦ done k below
  | inr above ↦ kept k above ∙ stays_behind test old at n k made within behind none above (omega (arith, high, whole))
]

-- one more date of a list
or_false : (b : Bool) → (b || false) ≡ b
or_false true = refl
or_false false = refl

or_true : (b : Bool) → (b || true) ≡ true
or_true true = refl
or_true false = refl

and_false : (b : Bool) → (b && false) ≡ false
and_false true = refl
and_false false = refl

pub among-add : (days : List ℤ) (d e : ℤ) → is_among (add_date d days) e ≡ (is_among days e || int_eq e d)
among-add days d e = elim (cases_Bool (is_among days d)) [
  | inl there ↦ rw there (elim (cases_Bool (int_eq e d)) [
    | inl same ↦ (let equal : e ≡ d = grind (arith, ints) in
        let is : is_among days e ≡ true = rw equal there in
        rw is refl)
    | inr other ↦ rw other (sym (or_false (is_among days e)))
  ])
  | inr absent ↦ rw absent (among-push days d e)
]

permitted_other : (c : DaysView) (list : HolidayList) (direction : Direction) (d e : ℤ) → int_eq e d ≡ false → is_permitted (add_holiday c list d) direction e ≡ is_permitted c direction e
unfolding is_permitted
permitted_other c Federal After d e other = rw (among-add c.federal d e, other, or_false (is_among c.federal e)) refl
permitted_other c Federal Before d e other = rw (among-add c.federal d e, other, or_false (is_among c.federal e)) refl
permitted_other c State After d e other = rw (among-add c.state d e, other, or_false (is_among c.state e)) refl
permitted_other c State Before d e other = refl

permitted_here : (c : DaysView) (list : HolidayList) (direction : Direction) (d e : ℤ) → counts_in list direction ≡ true → int_eq e d ≡ true → is_permitted (add_holiday c list d) direction e ≡ false
unfolding is_permitted
permitted_here c Federal After d e counts same = rw (among-add c.federal d e, same, or_true (is_among c.federal e)) (ap (λ b. is_covered c e && b) (and_false _) ∙ and_false (is_covered c e))
permitted_here c Federal Before d e counts same = rw (among-add c.federal d e, same, or_true (is_among c.federal e)) (ap (λ b. is_covered c e && b) (and_false _) ∙ and_false (is_covered c e))
permitted_here c State After d e counts same = rw (among-add c.state d e, same, or_true (is_among c.state e), or_true (is_among c.federal e)) (ap (λ b. is_covered c e && b) (and_false _) ∙ and_false (is_covered c e))
permitted_here c State Before d e counts same = absurd (cc)

permitted_uncounted : (c : DaysView) (list : HolidayList) (direction : Direction) (d e : ℤ) → counts_in list direction ≡ false → is_permitted (add_holiday c list d) direction e ≡ is_permitted c direction e
unfolding is_permitted
permitted_uncounted c Federal direction d e counts = absurd (cc)
permitted_uncounted c State After d e counts = absurd (cc)
permitted_uncounted c State Before d e counts = refl

same_place : (c : DaysView) (list : HolidayList) (direction : Direction) (d : ℤ) (k : ℕ) → day_at (add_holiday c list d) direction k ≡ day_at c direction k
same_place c Federal After d k = refl
same_place c Federal Before d k = refl
same_place c State After d k = refl
same_place c State Before d k = refl

same_span : (c : DaysView) (list : HolidayList) (d : ℤ) → days_through (add_holiday c list d).from (add_holiday c list d).to ≡ days_through c.from c.to
same_span c Federal d = refl
same_span c State d = refl

-- the table stays where no day is closed by the date
table_kept : (c : DaysView) (list : HolidayList) (direction : Direction) (d : ℤ) (entries : List ℕ) → IsTable c direction entries → ((e : ℤ) → is_permitted (add_holiday c list d) direction e ≡ is_permitted c direction e) → IsTable (add_holiday c list d) direction entries
table_kept c list direction d entries table same =
    table_of_entries (add_holiday c list d) direction entries (table.whole ∙ sym (same_span c list d)) table.short
    (entries-agree (permitted_at c direction) (permitted_at (add_holiday c list d) direction) entries (λ k h. rw (same_place c list direction d k) (sym (same (day_at c direction k)))) (entries_of_table c direction entries table))

pub kept_uncounted : (c : DaysView) (list : HolidayList) (direction : Direction) (d : ℤ) (entries : List ℕ) → IsTable c direction entries → counts_in list direction ≡ false → IsTable (add_holiday c list d) direction entries
kept_uncounted c list direction d entries table counts = table_kept c list direction d entries table (λ e. permitted_uncounted c list direction d e counts)

pub kept_closed : (c : DaysView) (list : HolidayList) (direction : Direction) (d : ℤ) (entries : List ℕ) → IsTable c direction entries → is_permitted c direction d ≡ false → IsTable (add_holiday c list d) direction entries
kept_closed c list direction d entries table closed = elim (cases_Bool (counts_in list direction)) [
  | inl counts ↦ table_kept c list direction d entries table (λ e. elim (cases_Bool (int_eq e d)) [
    | inl same ↦ (let equal : e ≡ d = grind (arith, ints) in
        let before : is_permitted c direction e ≡ false = rw equal closed in
        permitted_here c list direction d e counts same ∙ sym before)
    | inr other ↦ permitted_other c list direction d e other
  ])
  | inr uncounted ↦ kept_uncounted c list direction d entries table uncounted
]

pub kept_uncovered : (c : DaysView) (list : HolidayList) (direction : Direction) (d : ℤ) (entries : List ℕ) → IsTable c direction entries → is_covered c d ≡ false → IsTable (add_holiday c list d) direction entries
unfolding is_permitted
kept_uncovered c list direction d entries table uncovered = kept_closed c list direction d entries table (rw uncovered refl)

-- a day whose entry isn't zero isn't permitted
pub kept_rolling : (c : DaysView) (list : HolidayList) (direction : Direction) (d : ℤ) (k : ℕ) (entries : List ℕ) → IsTable c direction entries → k < length entries → d ≡ day_at c direction k → (get_or entries k 0 ≡ 0 → ⊥) → IsTable (add_holiday c list d) direction entries
kept_rolling c list direction d k entries table within place some =
    kept_closed c list direction d entries table (rw place (not_permitted (permitted_at c direction) entries k (entries_of_table c direction entries table) within some))

-- places differ as their days do
day_at-other : (c : DaysView) (direction : Direction) (j k : ℕ) → (j ≡ k → ⊥) → int_eq (day_at c direction j) (day_at c direction k) ≡ false
day_at-other c After j k differs = grind (arith, ints, differs)
day_at-other c Before j k differs = grind (arith, ints, differs)

pub mended_table : (c : DaysView) (list : HolidayList) (direction : Direction) (d : ℤ) (at : ℕ) (old new : List ℕ) → IsTable c direction old → counts_in list direction ≡ true → d ≡ day_at c direction at → length new ≡ length old → AreEntries (closed_at at (permitted_at c direction)) new → IsTable (add_holiday c list d) direction new
mended_table c list direction d at old new table counts place length_same made =
    table_of_entries (add_holiday c list d) direction new (length_same ∙ table.whole ∙ sym (same_span c list d)) (omega (arith, table.short, length_same))
    (entries-agree (closed_at at (permitted_at c direction)) (permitted_at (add_holiday c list d) direction) new agree made)
  where
    agree : (k : ℕ) → k < length new → closed_at at (permitted_at c direction) k ≡ permitted_at (add_holiday c list d) direction k
    agree k h = elim (cases_eq k at) [
      | inl same ↦
          let equal : int_eq (day_at c direction k) d ≡ true = rw (same, place) (int_eq_equiv.refl (day_at c direction at)) in
          rw (same_place c list direction d k, permitted_here c list direction d (day_at c direction k) counts equal, same) (closed_here (permitted_at c direction) at)
      | inr differs ↦
          let other : int_eq (day_at c direction k) d ≡ false = rw place (day_at-other c direction k at differs) in
          rw (same_place c list direction d k, permitted_other c list direction d (day_at c direction k) other) (closed_other (permitted_at c direction) at k differs)
    ]
