-- A text and one byte more.
use Rattle.std.proofs.Common.{◌≡◌, inl, inr, ℕ, ◌+◌, ◌<◌, ◌||◌, Bool, true, false, List, [], ◌∷◌, ◌++◌, length, get_or, take, count_by, cond, if◌then◌else◌, refl, ap, sym, arith}
use Rattle.std.specs.List.{list_any}
use Rattle.std.proofs.lemmas.Bool.{cases_Bool}
use Rattle.std.proofs.lemmas.List.{take_more}
use Rattle.std.proofs.lemmas.List.Sums.{count_by_more_yes, count_by_more_no, sum_by-append}
use Rattle.court_file_check.specs.Places.Place.{is_line_end, last_line, starts_character}

ended : (xs : List ℕ) (b : ℕ) → is_line_end b ≡ true → list_any is_line_end (xs ++ b ∷ []) ≡ true
ended [] b h = rw h refl
ended (x ∷ xs) b h = rw (ended xs b h) (either (is_line_end x)) where
  either : (t : Bool) → (t || true) ≡ true
  either true = refl
  either false = refl

same : (xs : List ℕ) (b : ℕ) → is_line_end b ≡ false → list_any is_line_end (xs ++ b ∷ []) ≡ list_any is_line_end xs
same [] b h = rw h refl
same (x ∷ xs) b h = ap (λ t. is_line_end x || t) (same xs b h)

-- after the end of a line a line begins
pub last_line_ended : (xs : List ℕ) (b : ℕ) → is_line_end b ≡ true → last_line (xs ++ b ∷ []) ≡ []
last_line_ended [] b h = rw h refl
last_line_ended (x ∷ xs) b h = rw (ended (x ∷ xs) b h) (last_line_ended xs b h)

-- any other byte goes on in its line
pub last_line_longer : (xs : List ℕ) (b : ℕ) → is_line_end b ≡ false → last_line (xs ++ b ∷ []) ≡ last_line xs ++ b ∷ []
last_line_longer [] b h = rw h refl
last_line_longer (x ∷ xs) b h = elim (cases_Bool (list_any is_line_end (x ∷ xs))) [
  | inl any ↦ rw (same (x ∷ xs) b h, any) (last_line_longer xs b h)
  | inr none ↦ rw (same (x ∷ xs) b h, none) refl
]

-- how many pass a test, with one byte more
count_more : (p : ℕ → Bool) (s : List ℕ) (i : ℕ) → i < length s → 1 + count_by p (take (i + 1) s) ≡ (1 + count_by p (take i s)) + (if p (get_or s i 0) then 1 else 0)
count_more p s i below = elim (cases_Bool (p (get_or s i 0))) [
  | inl passes ↦ let more = count_by_more_yes p s i 0 below passes in rw passes (omega (arith, more))
  | inr fails ↦ let more = count_by_more_no p s i 0 below fails in rw fails (omega (arith, more))
]

-- the same of a list
count_pushed : (p : ℕ → Bool) (xs : List ℕ) (b : ℕ) → 1 + count_by p (xs ++ b ∷ []) ≡ (1 + count_by p xs) + (if p b then 1 else 0)
count_pushed p xs b = let all = sum_by-append (λ x. cond (p x) 1 0) xs (b ∷ []) in omega (arith, all)

-- the line after one byte more
pub next_line : (s : List ℕ) (i line : ℕ) → i < length s → line ≡ 1 + count_by is_line_end (take i s) → line + (if is_line_end (get_or s i 0) then 1 else 0) ≡ 1 + count_by is_line_end (take (i + 1) s)
next_line s i line below so_far = rw so_far (sym (count_more is_line_end s i below))

-- the column after one byte more
pub next_column : (s : List ℕ) (i column : ℕ) → i < length s → column ≡ 1 + count_by starts_character (last_line (take i s)) → (if is_line_end (get_or s i 0) then 1 else column + (if starts_character (get_or s i 0) then 1 else 0)) ≡ 1 + count_by starts_character (last_line (take (i + 1) s))
next_column s i column below so_far = elim (cases_Bool (is_line_end (get_or s i 0))) [
  | inl ends ↦ rw (take_more s i 0 below, last_line_ended (take i s) (get_or s i 0) ends, ends) refl
  | inr goes_on ↦ rw (take_more s i 0 below, last_line_longer (take i s) (get_or s i 0) goes_on, goes_on, so_far) (sym (count_pushed starts_character (last_line (take i s)) (get_or s i 0)))
]
