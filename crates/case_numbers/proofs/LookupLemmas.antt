-- A case is looked up by the keys or the numbers that stand in the same order.
use Rattle.std.proofs.Common.{◌≡◌, ◌∙◌, ◌+◌, ◌<◌, ◌≤◌, ◌||◌, ℕ, suc, zero, Bool, true, false, not, cond, ltb, List, [], ◌∷◌, ◌++◌, Option, Some, None, Vec, get_or, length, map, position, slice_get, is_some, option_map, nat_eq, refl, sym, ap, arith}
use Rattle.std.proofs.lemmas.Bool.Decides.{nat_tests}
use Rattle.std.proofs.lemmas.List.{length-map, map_push}
use Rattle.std.proofs.lemmas.List.Folds.{find_at}
use Rattle.std.proofs.lemmas.List.Quantifiers.{position-Some}
use Rattle.std.proofs.lemmas.Option.{slice_get_past}
use Rattle.std.specs.List.{find, list_any, position_or_len}
use Rattle.std.specs.Str.{bytes_eq}
use Rattle.std.specs.declared.alloc.Global.{Global}
use Rattle.indexmap.specs.IndexSet.{insert_key}
use Rattle.case_numbers.specs.Cases.{name_of, number_of}
use Rattle.case_numbers.specs.declared.names.NamedCase.{NamedCase}

position_or_len-map : {X Y : Type 0} (f : X → Y) (test : Y → Bool) (xs : List X) → position_or_len test (map f xs) ≡ position_or_len (λ x. test (f x)) xs
position_or_len-map f test [] = refl
position_or_len-map f test (x ∷ xs) = ap (λ n. cond (not (test (f x))) (1 + n) 0) (position_or_len-map f test xs)

position-map : {X Y : Type 0} (f : X → Y) (test : Y → Bool) (xs : List X) → position test (map f xs) ≡ position (λ x. test (f x)) xs
position-map f test xs = rw (position_or_len-map f test xs, length-map) refl

place_is : {X : Type 0} (test : X → Bool) (xs : List X) (i : ℕ) → position test xs ≡ Some i → position_or_len test xs ≡ i
place_is test xs i h = by (ltb (position_or_len test xs) (length xs)) h
  where
    by : (b : Bool) → cond b (Some (position_or_len test xs)) None ≡ Some i → position_or_len test xs ≡ i
    by true h = cc h
    by false h = cc h

no_place : {X : Type 0} (test : X → Bool) (xs : List X) → position test xs ≡ None → length xs ≤ position_or_len test xs
no_place test xs h = by (ltb (position_or_len test xs) (length xs)) refl h
  where
    by : (b : Bool) → ltb (position_or_len test xs) (length xs) ≡ b → cond b (Some (position_or_len test xs)) None ≡ None → length xs ≤ position_or_len test xs
    by true e h = cc h
    by false e h = grind (arith, nat_tests)

found : {X Y : Type 0} (f : X → Y) (test : Y → Bool) (xs : List X) (i : ℕ) → position test (map f xs) ≡ Some i → find (λ x. test (f x)) xs ≡ slice_get xs i
found f test xs i h = find_at (λ x. test (f x)) xs ∙ ap (slice_get xs) (place_is (λ x. test (f x)) xs i (sym (position-map f test xs) ∙ h))

pub there_at : {X : Type 0} (xs : List X) (i : ℕ) (x : X) → i < length xs → x ≡ get_or xs i x → slice_get xs i ≡ Some x
there_at [] i x there is = absurd (omega (arith, there))
there_at (y ∷ xs) zero x there is = ap Some (sym is)
there_at (y ∷ xs) (suc i) x there is = there_at xs i x (omega (arith, there)) is

found_at : {X Y : Type 0} (f : X → Y) (test : Y → Bool) (xs : List X) (i : ℕ) (x : X) → position test (map f xs) ≡ Some i → x ≡ get_or xs i x → find (λ x. test (f x)) xs ≡ Some x
found_at f test xs i x h is =
    let before = sym (position-map f test xs) ∙ h in
    let within = (position-Some (λ x. test (f x)) xs i x before).0 in
    found f test xs i h ∙ there_at xs i x within is

not_found : {X Y : Type 0} (f : X → Y) (test : Y → Bool) (xs : List X) → position test (map f xs) ≡ None → find (λ x. test (f x)) xs ≡ None
not_found f test xs h = find_at (λ x. test (f x)) xs ∙ slice_get_past xs (position_or_len (λ x. test (f x)) xs) (no_place (λ x. test (f x)) xs (sym (position-map f test xs) ∙ h))

any_found : {X : Type 0} (p : X → Bool) (xs : List X) → list_any p xs ≡ is_some (find p xs)
any_found p [] = refl
any_found p (x ∷ xs) = by (p x) (any_found p xs)
  where
    by : (b : Bool) → list_any p xs ≡ is_some (find p xs) → (b || list_any p xs) ≡ is_some (cond b (Some x) (find p xs))
    by true rest = refl
    by false rest = rest

any-map : {X Y : Type 0} (f : X → Y) (test : Y → Bool) (xs : List X) → list_any test (map f xs) ≡ list_any (λ x. test (f x)) xs
any-map f test [] = refl
any-map f test (x ∷ xs) = ap (λ b. test (f x) || b) (any-map f test xs)

pub some_map : {X Y : Type 0} (f : X → Y) (x : Option X) → is_some (option_map f x) ≡ is_some x
some_map f None = refl
some_map f (Some x) = refl

module _ (cases : List NamedCase) (keys : List (Vec ℕ Global)) (key : List ℕ) (same : map (λ (k : Vec ℕ Global). k.items) keys ≡ map (λ (c : NamedCase). c.name.key) cases) where
  places : (r : Option ℕ) → r ≡ position (λ k. bytes_eq key k.items) keys → position (bytes_eq key) (map (λ c. c.name.key) cases) ≡ r
  places r is = ap (position (bytes_eq key)) (sym same) ∙ position-map (λ k. k.items) (bytes_eq key) keys ∙ sym is

  pub numbered : (i : ℕ) (case : NamedCase) → Some i ≡ position (λ k. bytes_eq key k.items) keys → case ≡ get_or cases i case → Some case.number ≡ number_of cases key
  unfolding number_of
  numbered i case is there = sym (ap (option_map (λ (c : NamedCase). c.number)) (found_at (λ c. c.name.key) (bytes_eq key) cases i case (places (Some i) is) there))

  pub not_numbered : None ≡ position (λ k. bytes_eq key k.items) keys → None ≡ number_of cases key
  unfolding number_of
  not_numbered is = sym (ap (option_map (λ (c : NamedCase). c.number)) (not_found (λ c. c.name.key) (bytes_eq key) cases (places None is)))

  pub new_key : is_some (number_of cases key) ≡ false → list_any (λ k. bytes_eq key k.items) keys ≡ false
  unfolding number_of
  new_key none =
      sym (any-map (λ (k : Vec ℕ Global). k.items) (bytes_eq key) keys) ∙ ap (list_any (bytes_eq key)) same ∙ any-map (λ c. c.name.key) (bytes_eq key) cases
      ∙ any_found (λ (c : NamedCase). bytes_eq key c.name.key) cases ∙ sym (some_map (λ (c : NamedCase). c.number) (find (λ c. bytes_eq key c.name.key) cases)) ∙ none

module _ (cases : List NamedCase) (numbers : List ℕ) (number : ℕ) (same : numbers ≡ map (λ (c : NamedCase). c.number) cases) where
  pub named_at : (i : ℕ) (case : NamedCase) → Some i ≡ position (nat_eq number) numbers → case ≡ get_or cases i case → Some case.name.shown ≡ name_of cases number
  unfolding name_of
  named_at i case is there = sym (ap (option_map (λ (c : NamedCase). c.name.shown)) (found_at (λ c. c.number) (nat_eq number) cases i case (ap (position (nat_eq number)) (sym same) ∙ sym is) there))

  pub not_named : None ≡ position (nat_eq number) numbers → None ≡ name_of cases number
  unfolding name_of
  not_named is = sym (ap (option_map (λ (c : NamedCase). c.name.shown)) (not_found (λ c. c.number) (nat_eq number) cases (ap (position (nat_eq number)) (sym same) ∙ sym is)))

  pub new_number : is_some (name_of cases number) ≡ false → list_any (nat_eq number) numbers ≡ false
  unfolding name_of
  new_number none =
      ap (list_any (nat_eq number)) same ∙ any-map (λ c. c.number) (nat_eq number) cases
      ∙ any_found (λ (c : NamedCase). nat_eq number c.number) cases ∙ sym (some_map (λ (c : NamedCase). c.name.shown) (find (λ c. nat_eq number c.number) cases)) ∙ none

pub added_number : (cases : List NamedCase) (numbers after : List ℕ) (case : NamedCase) → numbers ≡ map (λ (c : NamedCase). c.number) cases → is_some (name_of cases case.number) ≡ false
    → after ≡ insert_key nat_eq numbers case.number → after ≡ map (λ (c : NamedCase). c.number) (cases ++ case ∷ [])
added_number cases numbers after case same none inserted =
    inserted ∙ ap (λ (b : Bool). cond b numbers (numbers ++ case.number ∷ [])) (new_number cases numbers case.number same none)
    ∙ ap (λ (l : List ℕ). l ++ case.number ∷ []) same ∙ sym (map_push (λ (c : NamedCase). c.number) cases case)

pub added_key : (cases : List NamedCase) (keys after : List (Vec ℕ Global)) (key : Vec ℕ Global) (case : NamedCase) → map (λ (k : Vec ℕ Global). k.items) keys ≡ map (λ (c : NamedCase). c.name.key) cases → key.items ≡ case.name.key
    → is_some (number_of cases case.name.key) ≡ false → after ≡ insert_key (λ (a b : Vec ℕ Global). bytes_eq a.items b.items) keys key → map (λ (k : Vec ℕ Global). k.items) after ≡ map (λ (c : NamedCase). c.name.key) (cases ++ case ∷ [])
added_key cases keys after key case same is none inserted =
    let absent : list_any (λ (k : Vec ℕ Global). bytes_eq key.items k.items) keys ≡ false = new_key cases keys key.items same (ap (λ (l : List ℕ). is_some (number_of cases l)) is ∙ none) in
    ap (map (λ (k : Vec ℕ Global). k.items)) (inserted ∙ ap (λ (b : Bool). cond b keys (keys ++ key ∷ [])) absent)
    ∙ map_push (λ (k : Vec ℕ Global). k.items) keys key ∙ ap (λ (l : List (List ℕ)). l ++ key.items ∷ []) same ∙ ap (λ (l : List ℕ). map (λ (c : NamedCase). c.name.key) cases ++ l ∷ []) is
    ∙ sym (map_push (λ (c : NamedCase). c.name.key) cases case)
