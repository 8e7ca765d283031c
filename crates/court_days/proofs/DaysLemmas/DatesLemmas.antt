-- A list in which each date is once, and its marks.
use Rattle.std.proofs.Common.{◌≡◌, ◌<◌, ◌≤◌, ◌+◌, ℕ, ◌==◌, ℤ, pos, ◌+ℤ◌, Bool, true, false, ◌||◌, List, [], ◌∷◌, ◌++◌, append_assoc, append-nil, cond, drop, filter, length, get_or, set, replicate, subst, get_or-set_other, get_or-set_same, length-set, refl, sym, ap, ◌∙◌, inl, inr, arith}
use Rattle.std.proofs.lemmas.Int.{ints}
use Rattle.std.proofs.lemmas.Bool.{cases_Bool}
use Rattle.std.specs.Ordering.{int_eq}
use Rattle.std.specs.List.{AllByRecursion, IsDistinct}
use Rattle.std.proofs.lemmas.Map.Keys.{IsDistinct-push}
use Rattle.std.proofs.lemmas.List.{at_drop_all, at_drop_more, get_or-replicate, length-replicate}
use Rattle.std.proofs.lemmas.List.Folds.{list_any-append}
use Rattle.std.specs.Cmp.{int_eq_equiv}
use Rattle.court_days.specs.Days.{add_date, is_among}
use Rattle.court_days.specs.Days.Marks.{AreMarked}

distinct_when_pushed : (old : List ℤ) (d : ℤ) → IsDistinct int_eq old → is_among old d ≡ false → IsDistinct int_eq (old ++ d ∷ [])
distinct_when_pushed old d distinct absent = IsDistinct-push int_eq_equiv old d distinct absent

pub marked_when_empty : (first : ℤ) (days : List ℤ) (marks : List Bool) (n : ℕ) → days ≡ [] → marks ≡ replicate n false → AreMarked first days marks
unfolding IsDistinct
marked_when_empty first days marks n empty clear = rw (empty, clear) record {
  distinct = tt;
  marked = λ k h. get_or-replicate n k false false (omega (arith, h, length-replicate n false));
}

or_false : (b : Bool) → (b || false) ≡ b
or_false true = refl
or_false false = refl

or_true : (b : Bool) → (b || true) ≡ true
or_true true = refl
or_true false = refl

-- whether a day is one of the dates and one more
pub among-push : (days : List ℤ) (d e : ℤ) → is_among (days ++ d ∷ []) e ≡ (is_among days e || int_eq e d)
among-push days d e = list_any-append (int_eq e) days (d ∷ []) ∙ ap (λ b. is_among days e || b) (or_false (int_eq e d))

among-new : (days : List ℤ) (d e : ℤ) → e ≡ d → is_among (days ++ d ∷ []) e ≡ true
among-new days d e same =
    let here : int_eq e d ≡ true = rw same (int_eq_equiv.refl d) in
    among-push days d e ∙ rw here (or_true (is_among days e))

among-other : (days : List ℤ) (d e : ℤ) → (e ≡ d → ⊥) → is_among (days ++ d ∷ []) e ≡ is_among days e
among-other days d e differs =
    let other : int_eq e d ≡ false = grind (arith, ints, differs) in
    among-push days d e ∙ rw other (or_false (is_among days e))

-- one more date, which has a mark
pub marked_when_pushed : (first : ℤ) (days : List ℤ) (marks : List Bool) (d : ℤ) (at : ℕ) → AreMarked first days marks → is_among days d ≡ false → at < length marks → d ≡ first +ℤ pos at → AreMarked first (days ++ d ∷ []) (set marks at true)
marked_when_pushed first days marks d at old absent within place = record {
  distinct = distinct_when_pushed days d old.distinct absent;
  marked = λ k h. elim (cases_Bool (k == at)) [
    | inl here ↦
        let same : k ≡ at = grind arith in
        let day : first +ℤ pos k ≡ d = rw same (sym place) in
        rw (among-new days d (first +ℤ pos k) day, same) (get_or-set_same marks at true false within)
    | inr other ↦
        let differs : k ≡ at → ⊥ = grind arith in
        let day : first +ℤ pos k ≡ d → ⊥ = λ same. differs (omega (arith, ints, same, place)) in
        rw (among-other days d (first +ℤ pos k) day, get_or-set_other marks at k true false differs) (old.marked k (omega (arith, h, length-set marks at true)))
  ];
}

-- one more date, which has no mark
pub marked_when_outside : (first : ℤ) (days : List ℤ) (marks : List Bool) (d : ℤ) → AreMarked first days marks → is_among days d ≡ false → ((k : ℕ) → k < length marks → d ≡ first +ℤ pos k → ⊥) → AreMarked first (days ++ d ∷ []) marks
marked_when_outside first days marks d old absent outside = record {
  distinct = distinct_when_pushed days d old.distinct absent;
  marked = λ k h. among-same k h;
}
  where
    among-same : (k : ℕ) → k < length marks → get_or marks k false ≡ is_among (days ++ d ∷ []) (first +ℤ pos k)
    among-same k h = old.marked k h ∙ sym (among-other days d (first +ℤ pos k) (λ same. outside k h (sym same)))

-- what holds of all of a list holds of one in it
holds_at : (P : ℤ → Type 0) (old : List ℤ) (d : ℤ) (rest : List ℤ) → AllByRecursion P (old ++ d ∷ rest) → P d
holds_at P [] d rest all = all.0
holds_at P (x ∷ old) d rest all = holds_at P old d rest all.1

-- of dates that are each there once, one is none of those before it
absent_before : (old : List ℤ) (d : ℤ) (rest : List ℤ) → IsDistinct int_eq (old ++ d ∷ rest) → is_among old d ≡ false
unfolding IsDistinct
absent_before [] d rest distinct = refl
absent_before (x ∷ old) d rest distinct =
    let other : int_eq d x ≡ false = int_eq_equiv.symm d x ∙ holds_at (λ y. int_eq x y ≡ false) old d rest distinct.0 in
    rw other (absent_before old d rest distinct.1)

-- one more of some days that are each there once is added to those before it
pub one_date_more : (days old new : List ℤ) (i : ℕ) (d : ℤ) → IsDistinct int_eq days → i < length days → d ≡ get_or days i d → old ++ drop i days ≡ days → new ≡ add_date d old → new ++ drop (i + 1) days ≡ days
one_date_more days old new i d distinct within is so made =
    let rest = drop (i + 1) days in
    let step : drop i days ≡ d ∷ rest = at_drop_more (λ (xs : List ℤ). xs) days i d within ∙ ap (λ x. x ∷ rest) (sym is) in
    let whole : old ++ d ∷ rest ≡ days = ap (λ (xs : List ℤ). old ++ xs) (sym step) ∙ so in
    let absent : is_among old d ≡ false = absent_before old d rest (subst (IsDistinct int_eq) (sym whole) distinct) in
    let added : new ≡ old ++ d ∷ [] = rw absent at made in
    ap (λ (xs : List ℤ). xs ++ rest) added ∙ append_assoc old (d ∷ []) rest ∙ whole

pub all_dates : (days dates : List ℤ) (i : ℕ) → length days ≤ i → dates ++ drop i days ≡ days → dates ≡ days
all_dates days dates i past so = sym (append-nil dates) ∙ ap (λ (xs : List ℤ). dates ++ xs) (sym (at_drop_all (λ (xs : List ℤ). xs) days i past)) ∙ so

-- what holds of each of some dates holds of each that is kept, and of dates that are each there once those that are kept are so too
holds_if : (P : ℤ → Type 0) (kept : Bool) (x : ℤ) (rest : List ℤ) → P x → AllByRecursion P rest → AllByRecursion P (cond kept (x ∷ rest) rest)
holds_if P true x rest one all = (one, all)
holds_if P false x rest one all = all

holds_of_kept : (P : ℤ → Type 0) (test : ℤ → Bool) (days : List ℤ) → AllByRecursion P days → AllByRecursion P (filter test days)
holds_of_kept P test [] all = all
holds_of_kept P test (x ∷ days) all = holds_if P (test x) x (filter test days) all.0 (holds_of_kept P test days all.1)

distinct_if : (kept : Bool) (x : ℤ) (rest : List ℤ) → AllByRecursion (λ y. int_eq x y ≡ false) rest → IsDistinct int_eq rest → IsDistinct int_eq (cond kept (x ∷ rest) rest)
unfolding IsDistinct
distinct_if true x rest apart distinct = (apart, distinct)
distinct_if false x rest apart distinct = distinct

pub distinct_kept : (test : ℤ → Bool) (days : List ℤ) → IsDistinct int_eq days → IsDistinct int_eq (filter test days)
unfolding IsDistinct
distinct_kept test [] distinct = distinct
distinct_kept test (x ∷ days) distinct =
    distinct_if (test x) x (filter test days) (holds_of_kept (λ y. int_eq x y ≡ false) test days distinct.0) (distinct_kept test days distinct.1)
