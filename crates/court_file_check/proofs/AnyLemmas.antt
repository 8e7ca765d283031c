-- A test of the items of a list, with one item more.
use Rattle.std.proofs.Common.{◌≡◌, ℕ, ◌+◌, ◌<◌, ◌||◌, Bool, true, false, List, [], ◌∷◌, ◌++◌, String, string_bytes, length, get_or, take, drop, map, filter, cond, ℤ, pos, negsuc, ◌+ℤ◌, ◌-ℤ◌, ◌≤ℤ◌, unsigned_abs, refl, sym, ap, ◌∙◌, arith, zero-add}
use Rattle.std.proofs.lemmas.Int.{ints}
use Rattle.std.specs.List.{list_any, range_with_len}
use Rattle.std.specs.declared.alloc.Global.{Global}
use Rattle.std.proofs.lemmas.List.{take_more}
use Rattle.std.proofs.lemmas.List.Folds.{list_any-append}
use Rattle.std.proofs.lemmas.List.FromFn.{map-range_with_len_more}
use Rattle.court_file_check.specs.Review.{days_from}
use Rattle.court_file_check.specs.Inside.Names.{texts_of}

or_false : (b : Bool) → (b || false) ≡ b
or_false b = elim b as (λ v. (v || false) ≡ v) [ true ↦ refl | false ↦ refl ]

pub any_pushed : {X : Type 0} (p : X → Bool) (xs : List X) (x : X) → list_any p (xs ++ x ∷ []) ≡ (list_any p xs || p x)
any_pushed p xs x = list_any-append p xs (x ∷ []) ∙ ap (λ b. list_any p xs || b) (or_false (p x))

-- one name more
pub name_more : (p : List ℕ → Bool) (names : List (String Global)) (i : ℕ) (name : String Global) → i < length names → name ≡ get_or names i name
    → list_any p (texts_of (take (i + 1) names)) ≡ (list_any p (texts_of (take i names)) || p (string_bytes name))
name_more p names i name below is =
    let more : take (i + 1) names ≡ take i names ++ name ∷ [] = take_more names i name below ∙ ap (λ x. take i names ++ x ∷ []) (sym is) in
    let texts : texts_of (take (i + 1) names) ≡ texts_of (take i names) ++ string_bytes name ∷ [] = rw more (pushed (take i names)) in
    rw texts (any_pushed p (texts_of (take i names)) (string_bytes name)) where
      pushed : (xs : List (String Global)) → texts_of (xs ++ name ∷ []) ≡ texts_of xs ++ string_bytes name ∷ []
      pushed [] = refl
      pushed (x ∷ xs) = ap (λ ts. string_bytes x ∷ ts) (pushed xs)

-- one day more
pub day_more : (p : ℤ → Bool) (first : ℤ) (n : ℕ) → list_any p (days_from first (n + 1)) ≡ (list_any p (days_from first n) || p (first +ℤ pos n))
day_more p first n = ap (list_any p) (map-range_with_len_more (λ k. first +ℤ pos k) 0 n n (zero-add n)) ∙ any_pushed p (days_from first n) (first +ℤ pos n)

-- one end of a text more
pub end_more : (p : List ℕ → Bool) (text : List ℕ) (n : ℕ) → list_any p (map (λ k. drop k text) (range_with_len 0 (n + 1))) ≡ (list_any p (map (λ k. drop k text) (range_with_len 0 n)) || p (drop n text))
end_more p text n = ap (list_any p) (map-range_with_len_more (λ k. drop k text) 0 n n (zero-add n)) ∙ any_pushed p (map (λ k. drop k text) (range_with_len 0 n)) (drop n text)

-- those that pass of the views of a list, with one item more
filter_pushed : {Y : Type 0} (p : Y → Bool) (ys : List Y) (y : Y) → filter p (ys ++ y ∷ []) ≡ filter p ys ++ cond (p y) (y ∷ []) []
filter_pushed p [] y = by_test (p y)
  where
    by_test : (b : Bool) → cond b (y ∷ []) [] ≡ cond b (y ∷ []) []
    by_test b = refl
filter_pushed p (z ∷ zs) y = by_test (p z) (filter_pushed p zs y)
  where
    by_test : (b : Bool) → filter p (zs ++ y ∷ []) ≡ filter p zs ++ cond (p y) (y ∷ []) [] → cond b (z ∷ filter p (zs ++ y ∷ [])) (filter p (zs ++ y ∷ [])) ≡ cond b (z ∷ filter p zs) (filter p zs) ++ cond (p y) (y ∷ []) []
    by_test true rest = ap (λ ys. z ∷ ys) rest
    by_test false rest = rest

map_pushed : {X Y : Type 0} (f : X → Y) (xs : List X) (x : X) → map f (xs ++ x ∷ []) ≡ map f xs ++ f x ∷ []
map_pushed f [] x = refl
map_pushed f (z ∷ zs) x = ap (λ ys. f z ∷ ys) (map_pushed f zs x)

-- those that pass of the views of a list so far, and one more
pub filter_goes_on : {X Y : Type 0} (p : Y → Bool) (f : X → Y) (xs : List X) (i : ℕ) (d : X) (passes : Bool) (before after : List Y) → i < length xs → before ≡ filter p (map f (take i xs))
    → passes ≡ p (f (get_or xs i d)) → after ≡ before ++ cond passes (f (get_or xs i d) ∷ []) [] → after ≡ filter p (map f (take (i + 1) xs))
filter_goes_on p f xs i d passes before after below so_far is added =
    let x = get_or xs i d in
    added
    ∙ ap (λ ys. ys ++ cond passes (f x ∷ []) []) so_far
    ∙ ap (λ b. filter p (map f (take i xs)) ++ cond b (f x ∷ []) []) is
    ∙ sym (ap (λ ys. filter p (map f ys)) (take_more xs i d below) ∙ ap (filter p) (map_pushed f (take i xs) x) ∙ filter_pushed p (map f (take i xs)) (f x))

-- those that pass of a list so far, and one more
pub filter_taken : {X : Type 0} (p : X → Bool) (xs : List X) (i : ℕ) (x : X) → i < length xs → x ≡ get_or xs i x
    → filter p (take (i + 1) xs) ≡ filter p (take i xs) ++ cond (p x) (x ∷ []) []
filter_taken p xs i x below is = ap (filter p) (take_more xs i x below ∙ ap (λ y. take i xs ++ y ∷ []) (sym is)) ∙ filter_pushed p (take i xs) x

pub no_days : (p : ℤ → Bool) (first : ℤ) → list_any p (days_from first 0) ≡ false
no_days p first = refl

nonneg_abs : (z : ℤ) → pos 0 ≤ℤ z → pos (unsigned_abs z) ≡ z
nonneg_abs (pos n) h = refl
nonneg_abs (negsuc n) h = absurd (omega (arith, ints, h))

-- a day before a later one is in the range of days
pub within_days : (first next : ℤ) (n : ℕ) → first ≤ℤ next → next ≤ℤ pos 110000 → n < unsigned_abs (next -ℤ first) → (first +ℤ pos n) ≤ℤ pos 110000
within_days first next n ordered low below =
    let whole : pos (unsigned_abs (next -ℤ first)) ≡ next -ℤ first = nonneg_abs (next -ℤ first) (omega (arith, ints, ordered)) in
    omega (arith, ints, whole, below, low)
