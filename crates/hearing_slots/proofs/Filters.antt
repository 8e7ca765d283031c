-- What a filter keeps of a list that a test parts in two.
use Rattle.std.proofs.Common.{◌≡◌, ℕ, ◌+◌, ◌<◌, ◌≤◌, Bool, true, false, not, ◌&&◌, List, [], ◌∷◌, ◌++◌, length, get_or, take, drop, refl, sym, ap, ◌∙◌, arith, length-take, length-drop, take-append-drop, inl, inr, subst}
use Rattle.std.specs.List.{All, AllPairs, AllWithin, filter, find}
use Rattle.std.specs.List.Sorted.{IsPartitionPoint, IsPartitionedBy}
use Rattle.std.proofs.lemmas.Bool.{cases_Bool, cases_eq, not_from_true, not_from_false}
use Rattle.std.proofs.lemmas.List.{append-nil, get_or-take, get_or-drop}
use Rattle.std.proofs.lemmas.List.Elements.{All-head, All-tail, filter-append, filter_agree}
use Rattle.std.proofs.Math.Bool.{and_comm}

-- a filter that each element passes keeps the list
pub filter_all : {X : Type 0} (p : X → Bool) (xs : List X) → All (λ x. p x ≡ true) xs → filter p xs ≡ xs
filter_all p [] h = refl
filter_all p (x ∷ xs) h =
    rw (All-head (λ y. p y ≡ true) x xs h) (ap (λ ys. x ∷ ys) (filter_all p xs (All-tail (λ y. p y ≡ true) x xs h)))

-- a filter that no element passes keeps none
pub filter_none : {X : Type 0} (p : X → Bool) (xs : List X) → All (λ x. p x ≡ false) xs → filter p xs ≡ []
filter_none p [] h = refl
filter_none p (x ∷ xs) h =
    rw (All-head (λ y. p y ≡ false) x xs h) (filter_none p xs (All-tail (λ y. p y ≡ false) x xs h))

-- what holds at each place before i holds of each element of the front
pub All-front : {X : Type 0} (P : X → Type 0) (xs : List X) (i : ℕ) → AllWithin P xs 0 i → All P (take i xs)
All-front P xs i h k d below =
    let within : k < i = omega (arith, length-take i xs) in
    let low : 0 ≤ k = omega arith in
    rw (get_or-take i xs k d within) (h k d low within)

-- what holds at each place from i on holds of each element of the rest
pub All-back : {X : Type 0} (P : X → Type 0) (xs : List X) (i : ℕ) → i ≤ length xs → AllWithin P xs i (length xs) → All P (drop i xs)
All-back P xs i le h k d below =
    let low : i ≤ i + k = omega arith in
    let high : i + k < length xs = omega (arith, length-drop i xs) in
    rw (get_or-drop i xs k d) (h (i + k) d low high)

-- the elements before the place at which a test turns false are those that pass it
pub filter_front : {X : Type 0} (p : X → Bool) (xs : List X) (i : ℕ) → i ≤ length xs → IsPartitionPoint (λ y. p y ≡ true) (λ y. p y ≡ false) xs i → filter p xs ≡ take i xs
filter_front p xs i le point =
    ap (filter p) (sym (take-append-drop i xs))
    ∙ filter-append p (take i xs) (drop i xs)
    ∙ ap (λ ys. ys ++ filter p (drop i xs)) (filter_all p (take i xs) (All-front (λ y. p y ≡ true) xs i point.0))
    ∙ ap (λ ys. take i xs ++ ys) (filter_none p (drop i xs) (All-back (λ y. p y ≡ false) xs i le point.1))
    ∙ append-nil (take i xs)

-- and those from there on are the others
pub filter_back : {X : Type 0} (p : X → Bool) (xs : List X) (i : ℕ) → i ≤ length xs → IsPartitionPoint (λ y. p y ≡ true) (λ y. p y ≡ false) xs i → filter (λ y. not (p y)) xs ≡ drop i xs
filter_back p xs i le point =
    let q = λ (y : _). not (p y) in
    let none = All-front (λ y. q y ≡ false) xs i (λ k d low high. not_from_true _ (point.0 k d low high)) in
    let all = All-back (λ y. q y ≡ true) xs i le (λ k d low high. not_from_false _ (point.1 k d low high)) in
    ap (filter q) (sym (take-append-drop i xs))
    ∙ filter-append q (take i xs) (drop i xs)
    ∙ ap (λ ys. ys ++ filter q (drop i xs)) (filter_none q (take i xs) none)
    ∙ filter_all q (drop i xs) all

-- a list parts at a test that passes whatever stands before what passes it
pub parted : {X : Type 0} (R : X → X → Type 0) (p : X → Bool) (xs : List X) → AllPairs R xs → ((a b : X) → R a b → p b ≡ true → p a ≡ true) → IsPartitionedBy p xs
parted R p xs pairs down i j d le within passes = elim (cases_eq i j) [
  | inl same ↦ subst (λ (n : ℕ). p (get_or xs n d) ≡ true) (sym same) passes
  | inr differ ↦
      let before : i < j = omega (arith, differ) in
      down (get_or xs i d) (get_or xs j d) (pairs i j d before within) passes
]

-- one filter after another keeps what passes both
pub filter-filter : {X : Type 0} (p q : X → Bool) (xs : List X) → filter p (filter q xs) ≡ filter (λ x. q x && p x) xs
filter-filter p q [] = refl
filter-filter p q (x ∷ xs) = elim (cases_Bool (q x)) [
  | inl passes ↦ elim (cases_Bool (p x)) [
    | inl too ↦ rw (passes, too) (ap (λ ys. x ∷ ys) (filter-filter p q xs))
    | inr fails ↦ rw (passes, fails) (filter-filter p q xs)
  ]
  | inr fails ↦ rw fails (filter-filter p q xs)
]

-- the first that passes is found among those that pass a weaker test
pub find-filter : {X : Type 0} (p q : X → Bool) → ((x : X) → p x ≡ true → q x ≡ true) → (xs : List X) → find p (filter q xs) ≡ find p xs
find-filter p q weaker [] = refl
find-filter p q weaker (x ∷ xs) = elim (cases_Bool (p x)) [
  | inl passes ↦ let too : q x ≡ true = weaker x passes in rw (too, passes) refl
  | inr fails ↦ elim (cases_Bool (q x)) [
    | inl kept ↦ rw (kept, fails) (find-filter p q weaker xs)
    | inr dropped ↦ rw (dropped, fails) (find-filter p q weaker xs)
  ]
]

-- a filter makes no difference to another one that keeps no more than it does
pub filter_kept : {X : Type 0} (p q : X → Bool) (xs : List X) → All (λ x. p x ≡ true → q x ≡ true) xs → filter p (filter q xs) ≡ filter p xs
filter_kept p q [] h = refl
filter_kept p q (x ∷ xs) h = elim (cases_Bool (p x)) [
  | inl passes ↦
      let too : q x ≡ true = All-head (λ y. p y ≡ true → q y ≡ true) x xs h passes in
      rw (too, passes) (ap (λ ys. x ∷ ys) (filter_kept p q xs (All-tail (λ y. p y ≡ true → q y ≡ true) x xs h)))
  | inr fails ↦ elim (cases_Bool (q x)) [
    | inl kept ↦ rw (kept, fails) (filter_kept p q xs (All-tail (λ y. p y ≡ true → q y ≡ true) x xs h))
    | inr dropped ↦ rw (dropped, fails) (filter_kept p q xs (All-tail (λ y. p y ≡ true → q y ≡ true) x xs h))
  ]
]

-- two filters give the same in either order
pub filter_comm : {X : Type 0} (p q : X → Bool) (xs : List X) → filter p (filter q xs) ≡ filter q (filter p xs)
filter_comm p q xs =
    filter-filter p q xs
    ∙ filter_agree (λ x. q x && p x) (λ x. p x && q x) (λ x. and_comm (q x) (p x)) xs
    ∙ sym (filter-filter q p xs)
