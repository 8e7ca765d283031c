-- The entries of the days by day: where a day's entry is, and what a change of it leaves.
use Rattle.std.proofs.Common.{◌≡◌, ℕ, suc, ◌+◌, ◌<◌, ◌≤◌, ℤ, ◌<ℤ◌, true, false, List, ◌∷◌, ◌++◌, length, get_or, set, take, drop, refl, sym, ap, ◌∙◌, subst, arith, inl, inr, drop-cons, take-append-drop}
use Rattle.std.specs.List.{All, AllWithin, insert, remove}
use Rattle.std.proofs.lemmas.Int.{ints}
use Rattle.std.proofs.lemmas.Bool.{cases_eq}
use Rattle.std.proofs.lemmas.List.{get_or-set_same, get_or-set_other, length-set, set_split}
use Rattle.std.proofs.lemmas.List.Elements.{All-append, All-set, All-take, All-drop}
use Rattle.std.proofs.lemmas.List.Quantifiers.{all_pairs_remove}
use Rattle.hearing_slots.specs.declared.day_slots.DaySlots.{DaySlots}
use Rattle.hearing_slots.specs.Slots.{has_day, taken_in, marked, AreMasks, MarksOnly, IsDayAt, IsGapForDay}
use Rattle.hearing_slots.proofs.Filters.{All-front, All-back}
use Rattle.hearing_slots.proofs.Inserts.{All-insert, AllPairs-insert}
use Rattle.hearing_slots.proofs.Finds.{find_absent, find_here, find_other}

-- entries of other days
not_of : (day : ℤ) (x : DaySlots) → (x.day ≡ day → ⊥) → has_day day x ≡ false
not_of day x other = grind (arith, ints)

not_earlier_of : (day : ℤ) (x : DaySlots) → x.day <ℤ day → has_day day x ≡ false
not_earlier_of day x earlier = grind (arith, ints)

not_later_of : (day : ℤ) (x : DaySlots) → day <ℤ x.day → has_day day x ≡ false
not_later_of day x later = grind (arith, ints)

is_of_day : (day : ℤ) (x : DaySlots) → x.day ≡ day → has_day day x ≡ true
is_of_day day x same = grind (arith, ints)

module _ (days : List DaySlots) (day : ℤ) (place : ℕ) where
  -- the front has no entry of the day
  front : AllWithin (λ x. x.day <ℤ day) days 0 place → All (λ x. has_day day x ≡ false) (take place days)
  front before = All-front (λ x. has_day day x ≡ false) days place (λ k d low high. not_earlier_of day (get_or days k d) (before k d low high))

  -- nor has the rest, from some place on
  rest : (from : ℕ) → from ≤ length days → AllWithin (λ x. day <ℤ x.day) days from (length days) → All (λ x. has_day day x ≡ false) (drop from days)
  rest from le behind = All-back (λ x. has_day day x ≡ false) days from le (λ k d low high. not_later_of day (get_or days k d) (behind k d low high))

  -- the entries before the place, the one there, and those after it
  split : (e : DaySlots) → place < length days → days ≡ take place days ++ get_or days place e ∷ drop (suc place) days
  split e within = sym (take-append-drop place days) ∙ ap (λ ys. take place days ++ ys) (drop-cons days place e within)

  -- what is marked on a day that has an entry
  pub marked-at : (e : DaySlots) → IsDayAt days day place → marked day days ≡ (get_or days place e).taken
  marked-at e at =
      ap (marked day) (split e at.in_range)
      ∙ ap taken_in (find_here (has_day day) (take place days) (get_or days place e) (drop (suc place) days) (front at.before) (is_of_day day (get_or days place e) (at.here e)))

  -- and on one that has none
  pub marked-gap : IsGapForDay days day place → marked day days ≡ 0
  marked-gap gap =
      let none = All-append (λ x. has_day day x ≡ false) (take place days) (drop place days) (front gap.before) (rest place gap.in_range gap.behind) in
      ap (marked day) (sym (take-append-drop place days))
      ∙ ap taken_in (find_absent (has_day day) (take place days ++ drop place days) none)

  -- other days, where an entry of the day is put between two parts
  others : (xs ys : List DaySlots) (y : DaySlots) (q : ℤ) → y.day ≡ day → (q ≡ day → ⊥) → marked q (xs ++ y ∷ ys) ≡ marked q (xs ++ ys)
  others xs ys y q same other =
      let apart : y.day ≡ q → ⊥ = λ h. other (sym h ∙ same) in
      ap taken_in (find_other (has_day q) xs y ys (not_of q y apart))

  -- the entry is replaced
  pub replaced : (taken : ℕ) → AreMasks days → IsDayAt days day place → 0 < taken → MarksOnly days (set days place record { day = day; taken = taken }) day taken
  replaced taken masks at some =
      let y : DaySlots = record { day = day; taken = taken } in
      let new = set days place y in
      let cut : new ≡ take place days ++ y ∷ drop (suc place) days = set_split days place y at.in_range in
      let days_stay : (k : ℕ) (d : DaySlots) → (get_or new k d).day ≡ (get_or days k d).day = λ k d. elim (cases_eq k place) [
        | inl here ↦ rw (here, get_or-set_same days place y d at.in_range) (sym (at.here d))
        | inr apart ↦ ap (λ (x : DaySlots). x.day) (get_or-set_other days place k y d apart)
      ] in
      record {
        masks = record {
          rising = λ j k d before within.
              let inside : k < length days = omega (arith, within, length-set days place y) in
              let less = masks.rising j k d before inside in
              omega (arith, ints, less, days_stay j d, days_stay k d);
          some = All-set (λ x. 0 < x.taken) days place y some masks.some;
        };
        this_day = ap (marked day) cut ∙ ap taken_in (find_here (has_day day) (take place days) y (drop (suc place) days) (front at.before) (is_of_day day y refl));
        other_days = λ q other.
            ap (marked q) cut
            ∙ others (take place days) (drop (suc place) days) y q refl other
            ∙ sym (others (take place days) (drop (suc place) days) (get_or days place y) q (at.here y) other)
            ∙ ap (marked q) (sym (split y at.in_range));
      }

  -- the entry is dropped
  pub dropped : (e : DaySlots) → AreMasks days → IsDayAt days day place → MarksOnly days (remove days place) day 0
  dropped e masks at =
      let next : place + 1 ≡ suc place = omega arith in
      let behind = subst (λ (n : ℕ). AllWithin (λ (x : DaySlots). day <ℤ x.day) days n (length days)) next at.behind in
      let within : suc place ≤ length days = omega (arith, at.in_range) in
      let none = All-append (λ x. has_day day x ≡ false) (take place days) (drop (suc place) days) (front at.before) (rest (suc place) within behind) in
      record {
        masks = record {
          rising = all_pairs_remove (λ (x y : DaySlots). x.day <ℤ y.day) days place at.in_range masks.rising;
          some = All-append (λ x. 0 < x.taken) (take place days) (drop (suc place) days) (All-take (λ x. 0 < x.taken) place days masks.some) (All-drop (λ x. 0 < x.taken) (suc place) days masks.some);
        };
        this_day = ap taken_in (find_absent (has_day day) (take place days ++ drop (suc place) days) none);
        other_days = λ q other.
            sym (others (take place days) (drop (suc place) days) (get_or days place e) q (at.here e) other)
            ∙ ap (marked q) (sym (split e at.in_range));
      }

  -- an entry is put where there was none
  pub entered : (taken : ℕ) → AreMasks days → IsGapForDay days day place → 0 < taken → MarksOnly days (insert days place record { day = day; taken = taken }) day taken
  entered taken masks gap some =
      let y : DaySlots = record { day = day; taken = taken } in
      record {
        masks = record {
          rising = AllPairs-insert (λ (a b : DaySlots). a.day <ℤ b.day) days place y gap.in_range masks.rising gap.before gap.behind;
          some = All-insert (λ x. 0 < x.taken) days place y masks.some some;
        };
        this_day = ap taken_in (find_here (has_day day) (take place days) y (drop place days) (front gap.before) (is_of_day day y refl));
        other_days = λ q other.
            others (take place days) (drop place days) y q refl other
            ∙ ap (marked q) (take-append-drop place days);
      }

  -- a day with no entry keeps none
  pub kept : AreMasks days → IsGapForDay days day place → MarksOnly days days day 0
  kept masks gap = record { masks = masks; this_day = marked-gap gap; other_days = λ q other. refl }
