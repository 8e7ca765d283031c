-- What holds of the elements of a list that is made from another one, and what is found in it.
use Rattle.std.proofs.Common.{◌≡◌, Bool, true, false, ◌&&◌, List, [], ◌∷◌, ◌++◌, map, filter, find, flat_map, Option, Some, None, option_map, refl, ap, sym, ◌∙◌, inl, inr}
use Rattle.std.specs.List.{All, Contains}
use Rattle.std.specs.Option.{IsSome}
use Rattle.std.proofs.lemmas.Bool.{cases_Bool, false≢true}
use Rattle.std.proofs.lemmas.List.Elements.{All-nil, All-cons, All-head, All-tail}
use Rattle.hearing_slots.proofs.CallerLemmas.{find-Some}

-- All

pub All-from_map : {X Y : Type 0} (P : Y → Type 0) (f : X → Y) (xs : List X) → All P (map f xs) → All (λ x. P (f x)) xs
All-from_map P f [] h = All-nil (λ x. P (f x))
All-from_map P f (x ∷ xs) h =
    All-cons (λ y. P (f y)) x xs (All-head P (f x) (map f xs) h) (All-from_map P f xs (All-tail P (f x) (map f xs) h))

pub All-from_filter : {X : Type 0} (P : X → Type 0) (p : X → Bool) (xs : List X) → All P (filter p xs) → All (λ x. p x ≡ true → P x) xs
All-from_filter P p [] h = All-nil (λ x. p x ≡ true → P x)
All-from_filter P p (x ∷ xs) h = elim (cases_Bool (p x)) [
  | inl passes ↦
      let all : All P (x ∷ filter p xs) = rw passes at h in
      All-cons (λ y. p y ≡ true → P y) x xs (λ _. All-head P x (filter p xs) all) (All-from_filter P p xs (All-tail P x (filter p xs) all))
  | inr fails ↦
      let all : All P (filter p xs) = rw fails at h in
      All-cons (λ y. p y ≡ true → P y) x xs (λ passes. absurd (false≢true (sym fails ∙ passes))) (All-from_filter P p xs all)
]

pub All-front : {X : Type 0} (P : X → Type 0) (xs ys : List X) → All P (xs ++ ys) → All P xs
All-front P [] ys h = All-nil P
All-front P (x ∷ xs) ys h = All-cons P x xs (All-head P x (xs ++ ys) h) (All-front P xs ys (All-tail P x (xs ++ ys) h))

pub All-back : {X : Type 0} (P : X → Type 0) (xs ys : List X) → All P (xs ++ ys) → All P ys
All-back P [] ys h = h
All-back P (x ∷ xs) ys h = All-back P xs ys (All-tail P x (xs ++ ys) h)

pub All-from_flat_map : {X Y : Type 0} (P : Y → Type 0) (f : X → List Y) (xs : List X) → All P (flat_map f xs) → All (λ x. All P (f x)) xs
All-from_flat_map P f [] h = All-nil (λ x. All P (f x))
All-from_flat_map P f (x ∷ xs) h =
    All-cons (λ y. All P (f y)) x xs (All-front P (f x) (flat_map f xs) h) (All-from_flat_map P f xs (All-back P (f x) (flat_map f xs) h))

-- where a filter keeps nothing, nothing passes
pub none_pass : {X : Type 0} (p : X → Bool) (xs : List X) → filter p xs ≡ [] → All (λ x. p x ≡ false) xs
none_pass p [] h = All-nil (λ x. p x ≡ false)
none_pass p (x ∷ xs) h = elim (cases_Bool (p x)) [
  | inl passes ↦ (let some : x ∷ filter p xs ≡ [] = rw passes at h in absurd cc)
  | inr fails ↦ All-cons (λ y. p y ≡ false) x xs fails (none_pass p xs (rw fails at h))
]

-- find

pub found_stands : {X : Type 0} (p : X → Bool) (xs : List X) (r : X) → find p xs ≡ Some r → Contains xs r × (p r ≡ true)
found_stands p xs r h =
    let first = find-Some p xs r h in
    ((first.place, first.within, first.stands), first.passes)

-- what is found in a list is found in a longer one
pub found_in_more : {X : Type 0} (p : X → Bool) (xs ys : List X) → IsSome (find p xs) → IsSome (find p (xs ++ ys))
found_in_more p [] ys h = absurd cc
found_in_more p (x ∷ xs) ys h = elim (cases_Bool (p x)) [
  | inl passes ↦ rw passes refl
  | inr fails ↦ rw fails (found_in_more p xs ys (rw fails at h))
]

-- something is found
pub record Found {X : Type 0} (o : Option X) : Type 0 where
  pub value : X
  pub is : o ≡ Some value

pub found_of : {X : Type 0} (o : Option X) → IsSome o → Found o
found_of None h = absurd cc
found_of (Some x) h = record { value = x; is = refl }

-- the first that passes a test, among those that pass another and are shown by f
pub find-map-filter : {X Y : Type 0} (q : Y → Bool) (f : X → Y) (p : X → Bool) (xs : List X) → find q (map f (filter p xs)) ≡ option_map f (find (λ x. p x && q (f x)) xs)
find-map-filter q f p [] = refl
find-map-filter q f p (x ∷ xs) = elim (cases_Bool (p x)) [
  | inl passes ↦ elim (cases_Bool (q (f x))) [
    | inl too ↦ rw (passes, too) refl
    | inr fails ↦ rw (passes, fails) (find-map-filter q f p xs)
  ]
  | inr fails ↦ rw fails (find-map-filter q f p xs)
]

-- what changes no test and no number of an element leaves those of the elements that pass
pub filter-map_same : {X Y : Type 0} (p : X → Bool) (f : X → X) (g : X → Y) → ((x : X) → p (f x) ≡ p x) → ((x : X) → g (f x) ≡ g x) → (xs : List X) → map g (filter p (map f xs)) ≡ map g (filter p xs)
filter-map_same p f g test value [] = refl
filter-map_same p f g test value (x ∷ xs) = elim (cases_Bool (p x)) [
  | inl passes ↦
      let too : p (f x) ≡ true = test x ∙ passes in
      rw (too, passes, value x) (ap (λ ys. g x ∷ ys) (filter-map_same p f g test value xs))
  | inr fails ↦
      let too : p (f x) ≡ false = test x ∙ fails in
      rw (too, fails) (filter-map_same p f g test value xs)
]
