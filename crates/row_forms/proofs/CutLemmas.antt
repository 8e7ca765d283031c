-- Texts that a byte divides, and the parts between such bytes.
use Rattle.std.proofs.Common.{◌≡◌, ◌≤◌, ◌<◌, ◌+◌, ℕ, suc, Bool, true, false, List, [], ◌∷◌, Option, Some, None, Bor, length, cond, ltb, refl, sym, ap, arith}
use Rattle.std.specs.Prelude.{not}
use Rattle.std.specs.List.{after_first, before_first, onto_first, position_or_len, slice_split}
use Rattle.std.specs.Option.{MatchOption, is_some, option_map}
use Rattle.std.proofs.lemmas.Bool.Decides.{nat_tests}
use Rattle.std.proofs.lemmas.List.Splits.{slice_split_first}
use Rattle.std.proofs.lemmas.Option.{same_Some}
use Rattle.std.proofs.lemmas.Str.Pattern.{IsSplitOnceResult, split_once_first}
use Rattle.row_forms.specs.Fields.Cut.{cut_at, is_byte}

below : (m n : ℕ) → m < n → ltb m n ≡ true
below m n h = grind (arith, nat_tests)

not_below : (m n : ℕ) → m ≡ n → ltb m n ≡ false
not_below m n h = grind (arith, nat_tests)

-- the two texts where there is a cut
abbrev cut_if : ℕ → List ℕ → Bool → Option (List ℕ × List ℕ)
cut_if c text cuts = cond cuts (Some (before_first (is_byte c) text, after_first (is_byte c) text)) None

-- the bytes of two texts
abbrev both : Bor (List ℕ) × Bor (List ℕ) → List ℕ × List ℕ
both cut = (cut.0.now, cut.1.now)

-- where `split_once` cuts
pub cut_is : (c : ℕ) (text : List ℕ) (r : Option (Bor (List ℕ) × Bor (List ℕ))) → IsSplitOnceResult c text r → c < 128 → option_map both r ≡ cut_at c text
unfolding cut_at
cut_is c text r h low = by r (split_once_first c text r h low)
  where
    by : (r : Option (Bor (List ℕ) × Bor (List ℕ)))
        → MatchOption r (position_or_len (is_byte c) text ≡ length text) (λ x. (position_or_len (is_byte c) text < length text) × (x.0.now ≡ before_first (is_byte c) text) × (x.1.now ≡ after_first (is_byte c) text))
        → option_map both r
        ≡ cut_if c text (ltb (position_or_len (is_byte c) text) (length text))
    by None all = rw (not_below _ _ all) refl
    by (Some x) parts = rw (below _ _ parts.0, parts.1, parts.2) refl

-- a text without such a byte is one part
one_part : (p : ℕ → Bool) (text : List ℕ) → position_or_len p text ≡ length text → slice_split p text ≡ text ∷ []
one_part p [] h = refl
one_part p (b ∷ text) h = by (p b) h (one_part p text)
  where
    by : (passes : Bool) → cond (not passes) (1 + position_or_len p text) 0 ≡ suc (length text) → (position_or_len p text ≡ length text → slice_split p text ≡ text ∷ [])
        → cond passes ([] ∷ slice_split p text) (onto_first b (slice_split p text)) ≡ (b ∷ text) ∷ []
    by true h more = absurd (omega arith)
    by false h more = let rest = more (omega arith) in rw rest refl

within : (p : ℕ → Bool) (text : List ℕ) → position_or_len p text ≤ length text
within p [] = omega arith
within p (b ∷ text) = by (p b) (within p text)
  where
    by : (passes : Bool) → position_or_len p text ≤ length text → cond (not passes) (1 + position_or_len p text) 0 ≤ suc (length text)
    by true h = omega arith
    by false h = omega arith

pub parts-uncut : (c : ℕ) (text : List ℕ) → cut_at c text ≡ None → slice_split (is_byte c) text ≡ text ∷ []
unfolding cut_at
parts-uncut c text h = by (ltb (position_or_len (is_byte c) text) (length text)) refl h
  where
    by : (cuts : Bool) → ltb (position_or_len (is_byte c) text) (length text) ≡ cuts → cut_if c text cuts ≡ None → slice_split (is_byte c) text ≡ text ∷ []
    by true e h = cc h
    by false e h =
        let most = within (is_byte c) text in
        one_part (is_byte c) text (grind (arith, nat_tests))

-- a text that is cut has the part before the cut, and those of the text after it
pub parts-cut : (c : ℕ) (text first more : List ℕ) → cut_at c text ≡ Some (first, more) → slice_split (is_byte c) text ≡ first ∷ slice_split (is_byte c) more
unfolding cut_at
parts-cut c text first more h = by (ltb (position_or_len (is_byte c) text) (length text)) refl h
  where
    by : (cuts : Bool) → ltb (position_or_len (is_byte c) text) (length text) ≡ cuts → cut_if c text cuts ≡ Some (first, more)
        → slice_split (is_byte c) text ≡ first ∷ slice_split (is_byte c) more
    by true e h =
        let stands : position_or_len (is_byte c) text < length text = grind (arith, nat_tests) in
        let same = same_Some _ _ h in
        let front : before_first (is_byte c) text ≡ first = ap (λ (cut : List ℕ × List ℕ). cut.0) same in
        let back : after_first (is_byte c) text ≡ more = ap (λ (cut : List ℕ × List ℕ). cut.1) same in
        rw (← front, ← back) (slice_split_first (is_byte c) text 0 stands)
    by false e h = cc h

-- the cut of a text, as a call answered it
pub cut-none : (c : ℕ) (text : List ℕ) (r : Option (Bor (List ℕ) × Bor (List ℕ))) → option_map both r ≡ cut_at c text → is_some r ≡ false → cut_at c text ≡ None
cut-none c text None h none = sym h
cut-none c text (Some x) h none = cc none

pub cut-some : (c : ℕ) (text : List ℕ) (r : Option (Bor (List ℕ) × Bor (List ℕ))) → option_map both r ≡ cut_at c text → is_some r ≡ true → (first : List ℕ) × (more : List ℕ) × (cut_at c text ≡ Some (first, more))
cut-some c text None h some = cc some
cut-some c text (Some x) h some = (x.0.now, x.1.now, sym h)
