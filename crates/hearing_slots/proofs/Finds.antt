-- The first element that passes a test, in a list that is put together from parts.
use Rattle.std.proofs.Common.{◌≡◌, ℕ, zero, suc, ◌<◌, Bool, not, length, get_or, arith, true, false, Some, None, List, [], ◌∷◌, ◌++◌, refl, inl, inr}
use Rattle.std.specs.List.{All, filter, find}
use Rattle.std.proofs.lemmas.Bool.{cases_Bool, not_from_false}
use Rattle.std.proofs.lemmas.List.Elements.{All-head, All-tail}
use Rattle.hearing_slots.proofs.Filters.{filter_all}

-- none, where no element passes
pub find_absent : {X : Type 0} (p : X → Bool) (xs : List X) → All (λ x. p x ≡ false) xs → find p xs ≡ None
find_absent p [] h = refl
find_absent p (x ∷ xs) h =
    rw (All-head (λ y. p y ≡ false) x xs h) (find_absent p xs (All-tail (λ y. p y ≡ false) x xs h))

-- the element after a front in which no element passes
pub find_here : {X : Type 0} (p : X → Bool) (xs : List X) (y : X) (ys : List X) → All (λ x. p x ≡ false) xs → p y ≡ true → find p (xs ++ y ∷ ys) ≡ Some y
find_here p [] y ys h passes = rw passes refl
find_here p (x ∷ xs) y ys h passes =
    rw (All-head (λ z. p z ≡ false) x xs h) (find_here p xs y ys (All-tail (λ z. p z ≡ false) x xs h) passes)

-- an element that does not pass makes no difference
pub find_other : {X : Type 0} (p : X → Bool) (xs : List X) (y : X) (ys : List X) → p y ≡ false → find p (xs ++ y ∷ ys) ≡ find p (xs ++ ys)
find_other p [] y ys fails = rw fails refl
find_other p (x ∷ xs) y ys fails = elim (cases_Bool (p x)) [
  | inl passes ↦ rw passes refl
  | inr not_it ↦ rw not_it (find_other p xs y ys fails)
]

-- r is at a place of the list and passes the test, and no element before it does
pub record IsFirst {X : Type 0} (p : X → Bool) (xs : List X) (r : X) : Type 0 where
  pub place : ℕ
  pub within : place < length xs
  pub stands : get_or xs place r ≡ r
  pub passes : p r ≡ true
  pub first : (k : ℕ) (d : X) → k < place → p (get_or xs k d) ≡ false

-- what is found is the first element that passes
pub find-Some : {X : Type 0} (p : X → Bool) (xs : List X) (r : X) → find p xs ≡ Some r → IsFirst p xs r
find-Some p [] r h = absurd cc
find-Some p (x ∷ xs) r h = elim (cases_Bool (p x)) [
  | inl passes ↦
      let found : Some x ≡ Some r = rw passes at h in
      let same : x ≡ r = cc in
      record { place = 0; within = omega arith; stands = same; passes = rw (← same) passes; first = λ k d below. absurd (omega arith) }
  | inr fails ↦
      let rest = find-Some p xs r (rw fails at h) in
      record {
        place = suc rest.place;
        within = omega (arith, rest.within);
        stands = rest.stands;
        passes = rest.passes;
        first = front p x xs rest.place fails rest.first;
      }
] where
  front : {X : Type 0} (p : X → Bool) (x : X) (xs : List X) (n : ℕ) → p x ≡ false → ((k : ℕ) (d : X) → k < n → p (get_or xs k d) ≡ false) → (k : ℕ) (d : X) → k < suc n → p (get_or (x ∷ xs) k d) ≡ false
  front p x xs n fails rest zero d below = fails
  front p x xs n fails rest (suc k) d below = rest k d (omega arith)

-- where nothing is found, no element passes
pub find-None : {X : Type 0} (p : X → Bool) (xs : List X) → find p xs ≡ None → All (λ x. p x ≡ false) xs
find-None p [] h k d within = absurd (omega arith)
find-None p (x ∷ xs) h k d within = elim (cases_Bool (p x)) [
  | inl passes ↦
      let found : Some x ≡ None = rw passes at h in
      absurd cc
  | inr fails ↦ each p x xs fails (find-None p xs (rw fails at h)) k d within
] where
  each : {X : Type 0} (p : X → Bool) (x : X) (xs : List X) → p x ≡ false → All (λ y. p y ≡ false) xs → All (λ y. p y ≡ false) (x ∷ xs)
  each p x xs fails rest zero d within = fails
  each p x xs fails rest (suc k) d within = rest k d (omega arith)

-- and to leave out what passes leaves the list as it is
pub filter_absent : {X : Type 0} (p : X → Bool) (xs : List X) → find p xs ≡ None → filter (λ x. not (p x)) xs ≡ xs
filter_absent p xs h = filter_all (λ x. not (p x)) xs (λ k d within. not_from_false _ (find-None p xs h k d within))
