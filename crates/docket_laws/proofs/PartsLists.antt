-- Lists of which some elements are kept, and shown.
use Rattle.std.proofs.Common.{◌≡◌, Bool, true, false, List, [], ◌∷◌, ◌++◌, get_or, map, find, filter, All, Option, Some, None, IsSome, refl, ap, ◌∙◌, inl, inr}
use Rattle.std.specs.Option.{option_or}
use Rattle.std.proofs.lemmas.Bool.{cases_Bool, false≢true}
use Rattle.std.proofs.lemmas.List.{append-nil, map-append}
use Rattle.std.proofs.lemmas.List.Elements.{All-nil, All-cons, All-head, All-tail, filter-append, filter_agree}
use Rattle.std.proofs.lemmas.List.Folds.{find-append}
use Rattle.hearing_slots.proofs.CallerLemmas.{find_other}

-- two that agree on each element give the same list
pub map_agree : {A B : Type 0} (f g : A → B) (xs : List A) → All (λ x. f x ≡ g x) xs → map f xs ≡ map g xs
map_agree f g [] h = refl
map_agree f g (x ∷ xs) h =
    rw (All-head (λ y. f y ≡ g y) x xs h) (ap (λ ys. g x ∷ ys) (map_agree f g xs (All-tail (λ y. f y ≡ g y) x xs h)))

-- one after the other
pub map-map : {A B C : Type 0} (g : B → C) (f : A → B) (xs : List A) → map g (map f xs) ≡ map (λ x. g (f x)) xs
map-map g f [] = refl
map-map g f (x ∷ xs) = ap (λ ys. g (f x) ∷ ys) (map-map g f xs)

-- what holds of those that pass a test holds of all that are kept
pub All-kept : {A : Type 0} (p : A → Bool) (P : A → Type 0) (xs : List A) → All (λ x. p x ≡ true → P x) xs → All P (filter p xs)
All-kept p P [] h = All-nil P
All-kept p P (x ∷ xs) h = elim (cases_Bool (p x)) [
  | inl passes ↦ rw passes (All-cons P x (filter p xs) (All-head (λ y. p y ≡ true → P y) x xs h passes) (All-kept p P xs (All-tail (λ y. p y ≡ true → P y) x xs h)))
  | inr fails ↦ rw fails (All-kept p P xs (All-tail (λ y. p y ≡ true → P y) x xs h))
]

-- of the elements that are kept only
pub map_agree-kept : {A B : Type 0} (p : A → Bool) (f g : A → B) (xs : List A) → All (λ x. p x ≡ true → f x ≡ g x) xs → map f (filter p xs) ≡ map g (filter p xs)
map_agree-kept p f g xs h = map_agree f g (filter p xs) (All-kept p (λ x. f x ≡ g x) xs h)

-- to keep what is shown so is to show what is kept
pub filter-map : {A B : Type 0} (p : B → Bool) (f : A → B) (xs : List A) → filter p (map f xs) ≡ map f (filter (λ x. p (f x)) xs)
filter-map p f [] = refl
filter-map p f (x ∷ xs) = elim (cases_Bool (p (f x))) [
  | inl passes ↦ rw passes (ap (λ ys. f x ∷ ys) (filter-map p f xs))
  | inr fails ↦ rw fails (filter-map p f xs)
]

-- a change of the elements that keeps them where they are
pub map_changed : {A B : Type 0} (p : A → Bool) (change : A → A) (show shown : A → B) (xs : List A) → ((x : A) → p (change x) ≡ p x) → ((x : A) → p x ≡ true → show (change x) ≡ shown x) → map show (filter p (map change xs)) ≡ map shown (filter p xs)
map_changed p change show shown xs kept same =
    ap (map show) (filter-map p change xs)
    ∙ ap (λ ys. map show (map change ys)) (filter_agree (λ x. p (change x)) p kept xs)
    ∙ map-map show change (filter p xs)
    ∙ map_agree-kept p (λ x. show (change x)) shown xs (λ k d within. same (get_or xs k d))

-- one more element, which passes or doesn't
pub filter-push : {A : Type 0} (p : A → Bool) (xs : List A) (y : A) → p y ≡ true → filter p (xs ++ y ∷ []) ≡ filter p xs ++ y ∷ []
filter-push p xs y passes = filter-append p xs (y ∷ []) ∙ rw passes refl

pub filter-push_other : {A : Type 0} (p : A → Bool) (xs : List A) (y : A) → p y ≡ false → filter p (xs ++ y ∷ []) ≡ filter p xs
filter-push_other p xs y fails = filter-append p xs (y ∷ []) ∙ rw fails (append-nil (filter p xs))

pub map_filter-push : {A B : Type 0} (f : A → B) (p : A → Bool) (xs : List A) (y : A) → p y ≡ true → map f (filter p (xs ++ y ∷ [])) ≡ map f (filter p xs) ++ f y ∷ []
map_filter-push f p xs y passes = ap (map f) (filter-push p xs y passes) ∙ map-append f (filter p xs) (y ∷ [])

-- what is found isn't changed by one more element that doesn't pass, nor where one that passes is found already
pub find-push_other : {A : Type 0} (p : A → Bool) (xs : List A) (y : A) → p y ≡ false → find p (xs ++ y ∷ []) ≡ find p xs
find-push_other p xs y fails = find_other p xs y [] fails ∙ ap (find p) (append-nil xs)

pub find-push_found : {A : Type 0} (p : A → Bool) (xs : List A) (y : A) → IsSome (find p xs) → find p (xs ++ y ∷ []) ≡ find p xs
find-push_found p xs y found = find-append p xs (y ∷ []) ∙ first (find p xs) (find p (y ∷ [])) found where
  first : {A : Type 0} (a b : Option A) → IsSome a → option_or a b ≡ a
  first None b h = absurd (false≢true h)
  first (Some x) b h = refl
