-- A version is the place of the last entry that touches the part.
use Rattle.std.proofs.Common.{◌≡◌, ℕ, zero, suc, ◌+◌, ◌-◌, ◌<◌, ◌≤◌, true, false, nat_lt, if◌then◌else◌, Option, Some, IfSome, List, [], ◌∷◌, ◌++◌, length, take, slice_get, refl, ap, sym, ◌∙◌, subst, arith}
use Rattle.std.proofs.lemmas.List.{length-append, append-nil, append_assoc, take-append-le, take_at}
use borrow.Author.Tests.{ltb-true, ltb-false, clash}
use Rattle.versioned_steps.specs.Rules.{Rules}
use Rattle.versioned_steps.specs.History.{touches, value_of, last_touch, version_of, TouchesAt, IsLastTouch}
use Rattle.versioned_steps.specs.Reads.{Read, IsFresh}
use Rattle.versioned_steps.specs.declared.entry.Entry.{Entry}
use Rattle.versioned_steps.proofs.HistoryLemmas.{version_push, version_most}

-- an element of the first list, and the first element of the second
get_before : {X : Type 0} (xs ys : List X) (i : ℕ) → i < length xs → slice_get (xs ++ ys) i ≡ slice_get xs i
get_before [] ys i lt = absurd (omega arith)
get_before (x ∷ xs) ys zero lt = refl
get_before (x ∷ xs) ys (suc i) lt = get_before xs ys i (omega arith)

get_next : {X : Type 0} (xs : List X) (y : X) (ys : List X) → slice_get (xs ++ y ∷ ys) (length xs) ≡ Some y
get_next [] y ys = refl
get_next (x ∷ xs) y ys = get_next xs y ys

module _ {Part Value Command Answer : Type 0} (r : Rules Part Value Command Answer) where
  -- what it is to touch, of the entry at a place and of the history before it
  abbrev Touch : Part → Option (Entry Command Answer) → List (Entry Command Answer) → Type 0
  Touch part o before = IfSome o (λ e. touches r (value_of r before) e.command part ≡ true)

  -- an entry touches the same in a longer history
  touches_longer : (g k : List (Entry Command Answer)) (place : ℕ) (part : Part) → 0 < place → place ≤ length g → TouchesAt r g place part → TouchesAt r (g ++ k) place part
  touches_longer g k place part first within touched =
      let i : place - 1 < length g = omega arith in
      let cut : take (place - 1) (g ++ k) ≡ take (place - 1) g = take-append-le (place - 1) g k (omega arith) in
      let P : Option (Entry Command Answer) → Type 0 = λ o. Touch part o (take (place - 1) (g ++ k)) in
      let Q : List (Entry Command Answer) → Type 0 = λ l. Touch part (slice_get g (place - 1)) l in
      subst P (sym (get_before g k (place - 1) i)) (subst Q (sym cut) touched)

  touches_shorter : (g k : List (Entry Command Answer)) (place : ℕ) (part : Part) → 0 < place → place ≤ length g → TouchesAt r (g ++ k) place part → TouchesAt r g place part
  touches_shorter g k place part first within touched =
      let i : place - 1 < length g = omega arith in
      let cut : take (place - 1) (g ++ k) ≡ take (place - 1) g = take-append-le (place - 1) g k (omega arith) in
      let P : Option (Entry Command Answer) → Type 0 = λ o. Touch part o (take (place - 1) (g ++ k)) in
      let Q : List (Entry Command Answer) → Type 0 = λ l. Touch part (slice_get g (place - 1)) l in
      subst Q cut (subst P (get_before g k (place - 1) i) touched)

  -- the entry that comes next touches what its command writes on the values before it
  touches_next : (g : List (Entry Command Answer)) (e : Entry Command Answer) (place : ℕ) (part : Part) → place ≡ length g + 1
      → (TouchesAt r (g ++ e ∷ []) place part → touches r (value_of r g) e.command part ≡ true) × (touches r (value_of r g) e.command part ≡ true → TouchesAt r (g ++ e ∷ []) place part)
  touches_next g e place part at =
      let i : place - 1 ≡ length g = omega arith in
      let entry : slice_get (g ++ e ∷ []) (place - 1) ≡ Some e = ap (slice_get (g ++ e ∷ [])) i ∙ get_next g e [] in
      let cut : take (place - 1) (g ++ e ∷ []) ≡ g = take_at g (e ∷ []) (place - 1) (sym i) in
      let P : Option (Entry Command Answer) → Type 0 = λ o. Touch part o (take (place - 1) (g ++ e ∷ [])) in
      let Q : List (Entry Command Answer) → Type 0 = λ l. Touch part (Some e) l in
      (λ touched. subst Q cut (subst P entry touched), λ touched. subst P (sym entry) (subst Q (sym cut) touched))

  last_touch_push : (g : List (Entry Command Answer)) (e : Entry Command Answer) (part : Part) → IsLastTouch r g part (version_of r g part)
      → IsLastTouch r (g ++ e ∷ []) part (version_of r (g ++ e ∷ []) part)
  last_touch_push g e part before =
      let len : length (g ++ e ∷ []) ≡ length g + 1 = length-append g (e ∷ []) in
      let P : ℕ → Type 0 = λ n. IsLastTouch r (g ++ e ∷ []) part n in
      subst P (sym (version_push r g e part))
      ((elim (touches r (value_of r g) e.command part) as (λ b. touches r (value_of r g) e.command part ≡ b
      → IsLastTouch r (g ++ e ∷ []) part (if b then length g + 1 else version_of r g part)) [
        | true ↦ λ touched. record {
          in_history = omega arith;
          touched = λ _. (touches_next g e (length g + 1) part refl).1 touched;
          none_later = λ later after within. absurd (omega arith);
        }
        | false ↦ λ untouched. record {
          in_history = omega (arith, before.in_history);
          touched = λ some. touches_longer g (e ∷ []) (version_of r g part) part some before.in_history (before.touched some);
          none_later = λ later after within touched.
              (elim (nat_lt (length g) later) as (λ b. nat_lt (length g) later ≡ b → ⊥) [
                | true ↦ λ test.
                    let last : later ≡ length g + 1 = omega (arith, ltb-true (length g) later test) in
                    clash (sym untouched ∙ (touches_next g e later part last).0 touched)
                | false ↦ λ test.
                    let old : later ≤ length g = ltb-false (length g) later test in
                    before.none_later later after old (touches_shorter g (e ∷ []) later part (omega arith) old touched)
              ]) refl;
        }
      ]) refl)

  last_touch_on : (g h : List (Entry Command Answer)) (part : Part) → IsLastTouch r g part (version_of r g part) → IsLastTouch r (g ++ h) part (version_of r (g ++ h) part)
  last_touch_on g [] part before = let P : List (Entry Command Answer) → Type 0 = λ l. IsLastTouch r l part (version_of r l part) in subst P (sym (append-nil g)) before
  last_touch_on g (e ∷ es) part before =
      let P : List (Entry Command Answer) → Type 0 = λ l. IsLastTouch r l part (version_of r l part) in
      subst P (append_assoc g (e ∷ []) es) (last_touch_on (g ++ e ∷ []) es part (last_touch_push g e part before))

  pub version_is_last_touch : (h : List (Entry Command Answer)) (part : Part) → IsLastTouch r h part (version_of r h part)
  unfolding last_touch
  version_is_last_touch h part =
      last_touch_on [] h part (record {
        in_history = omega arith;
        touched = λ some. absurd (omega arith);
        none_later = λ later after within. absurd (omega arith);
      })

  -- a read is fresh exactly where nothing later touches its part
  pub fresh_untouched : (h : List (Entry Command Answer)) (x : Read Part Value) → IsFresh r h x → (later : ℕ) → x.at < later → later ≤ length h → TouchesAt r h later x.part → ⊥
  fresh_untouched h x fresh later after within touched = (version_is_last_touch h x.part).none_later later (omega arith) within touched

  pub untouched_fresh : (h : List (Entry Command Answer)) (x : Read Part Value) → ((later : ℕ) → x.at < later → later ≤ length h → TouchesAt r h later x.part → ⊥) → IsFresh r h x
  untouched_fresh h x none =
      (elim (nat_lt x.at (version_of r h x.part)) as (λ b. nat_lt x.at (version_of r h x.part) ≡ b → version_of r h x.part ≤ x.at) [
        | true ↦ λ test.
            let later : x.at < version_of r h x.part = ltb-true x.at (version_of r h x.part) test in
            absurd (none (version_of r h x.part) later (version_most r h x.part) ((version_is_last_touch h x.part).touched (omega arith)))
        | false ↦ λ test. ltb-false x.at (version_of r h x.part) test
      ]) refl
