-- Lines, byte by byte.
use Rattle.std.proofs.Common.{◌≡◌, ◌∙◌, ◌+◌, ◌-◌, ◌<◌, ◌≤◌, ℕ, Bool, true, false, not, List, [], ◌∷◌, ◌++◌, length, drop, get_or, refl, sym, ap, append_assoc, arith}
use Rattle.std.specs.Prelude.{nat_lt}
use Rattle.std.specs.Str.{trim}
use Rattle.std.proofs.lemmas.List.{append-nil, drop_all, drop_more}
use Rattle.std.proofs.lemmas.Bool.{ne_eqb}
use Rattle.std.proofs.lemmas.Bool.Decides.{nat_tests}
use Rattle.row_fields.specs.Line.{count_outside, fields_after, fields_in, is_padding, meant, place_after, plain, separates, typed, typed_after}

-- one character of a line
typed_one : (more b : ℕ) (rest : List ℕ) → nat_lt 0 more ≡ false → typed_after more (b ∷ rest) ≡ plain (meant (b ∷ rest)).0 ∷ typed_after (meant (b ∷ rest)).1 rest
unfolding typed_after
typed_one more b rest is = rw is refl

joined : (text : List ℕ) (b : ℕ) (rest : List ℕ) → (text ++ b ∷ []) ++ rest ≡ text ++ b ∷ rest
joined text b rest = append_assoc text (b ∷ []) rest

module _ (line : List ℕ) (i : ℕ) (there : i < length line) where
  next_byte : drop i line ≡ get_or line i 0 ∷ drop (i + 1) line
  next_byte = drop_more line i 0 there

  -- one byte more of a line that is counted so far
  module _ (mark : ℕ) (quoted : Bool) (count : ℕ) (whole : count + count_outside mark quoted (drop i line) ≡ count_outside mark false line) where
    pub count_quote : get_or line i 0 ≡ 34 → count + count_outside mark (not quoted) (drop (i + 1) line) ≡ count_outside mark false line
    unfolding count_outside
    count_quote is = sym (ap (λ rest. count + count_outside mark quoted rest) next_byte ∙ rw is refl) ∙ whole

    pub count_there : (get_or line i 0 ≡ 34 → ⊥) → separates (get_or line i 0) mark quoted ≡ true → (count + 1) + count_outside mark quoted (drop (i + 1) line) ≡ count_outside mark false line
    unfolding count_outside
    count_there quote is =
        let one : count + count_outside mark quoted (drop i line) ≡ count + (count_outside mark quoted (drop (i + 1) line) + 1) = ap (λ rest. count + count_outside mark quoted rest) next_byte ∙ rw (ne_eqb _ 34 quote, is) refl in
        omega (arith, one, whole)

    pub count_later : (get_or line i 0 ≡ 34 → ⊥) → separates (get_or line i 0) mark quoted ≡ false → count + count_outside mark quoted (drop (i + 1) line) ≡ count_outside mark false line
    unfolding count_outside
    count_later quote is = sym (ap (λ rest. count + count_outside mark quoted rest) next_byte ∙ rw (ne_eqb _ 34 quote, is) refl) ∙ whole

  -- one byte more of a line before a field's place
  module _ (mark left : ℕ) (quoted : Bool) (place : ℕ) (whole : i + place_after mark left quoted (drop i line) ≡ place) where
    pub place_padding : left ≡ 0 → is_padding (get_or line i 0) ≡ true → (i + 1) + place_after mark left quoted (drop (i + 1) line) ≡ place
    unfolding place_after
    place_padding none is =
        let one : i + place_after mark left quoted (drop i line) ≡ i + (place_after mark left quoted (drop (i + 1) line) + 1) = ap (λ rest. i + place_after mark left quoted rest) next_byte ∙ rw (none, is) refl in
        omega (arith, one, whole)

    pub place_there : left ≡ 0 → is_padding (get_or line i 0) ≡ false → i ≡ place
    unfolding place_after
    place_there none is =
        let one : i + place_after mark left quoted (drop i line) ≡ i + 0 = ap (λ rest. i + place_after mark left quoted rest) next_byte ∙ rw (none, is) refl in
        omega (arith, one, whole)

    pub place_quote : (left ≡ 0 → ⊥) → get_or line i 0 ≡ 34 → (i + 1) + place_after mark left (not quoted) (drop (i + 1) line) ≡ place
    unfolding place_after
    place_quote some is =
        let one : i + place_after mark left quoted (drop i line) ≡ i + (place_after mark left (not quoted) (drop (i + 1) line) + 1) = ap (λ rest. i + place_after mark left quoted rest) next_byte ∙ rw (ne_eqb left 0 some, is) refl in
        omega (arith, one, whole)

    pub place_mark : (left ≡ 0 → ⊥) → (get_or line i 0 ≡ 34 → ⊥) → separates (get_or line i 0) mark quoted ≡ true → (i + 1) + place_after mark (left - 1) quoted (drop (i + 1) line) ≡ place
    unfolding place_after
    place_mark some quote is =
        let one : i + place_after mark left quoted (drop i line) ≡ i + (place_after mark (left - 1) quoted (drop (i + 1) line) + 1) = ap (λ rest. i + place_after mark left quoted rest) next_byte ∙ rw (ne_eqb left 0 some, ne_eqb _ 34 quote, is) refl in
        omega (arith, one, whole)

    pub place_later : (left ≡ 0 → ⊥) → (get_or line i 0 ≡ 34 → ⊥) → separates (get_or line i 0) mark quoted ≡ false → (i + 1) + place_after mark left quoted (drop (i + 1) line) ≡ place
    unfolding place_after
    place_later some quote is =
        let one : i + place_after mark left quoted (drop i line) ≡ i + (place_after mark left quoted (drop (i + 1) line) + 1) = ap (λ rest. i + place_after mark left quoted rest) next_byte ∙ rw (ne_eqb left 0 some, ne_eqb _ 34 quote, is) refl in
        omega (arith, one, whole)

  -- one byte more of a line that is cut so far
  module _ (mark : ℕ) (quoted : Bool) (fields : List (List ℕ)) (field : List ℕ) (whole : fields_after mark quoted fields field (drop i line) ≡ fields_in mark line) where
    pub cut_quote : get_or line i 0 ≡ 34 → fields_after mark (not quoted) fields field (drop (i + 1) line) ≡ fields_in mark line
    unfolding fields_after
    cut_quote is = sym (rw (next_byte, is) refl) ∙ whole

    pub cut_mark : (get_or line i 0 ≡ 34 → ⊥) → separates (get_or line i 0) mark quoted ≡ true → fields_after mark quoted (fields ++ trim field ∷ []) [] (drop (i + 1) line) ≡ fields_in mark line
    unfolding fields_after
    cut_mark quote is = sym (rw (next_byte, ne_eqb _ 34 quote, is) refl) ∙ whole

    pub cut_within : (get_or line i 0 ≡ 34 → ⊥) → separates (get_or line i 0) mark quoted ≡ false → fields_after mark quoted fields (field ++ plain (get_or line i 0) ∷ []) (drop (i + 1) line) ≡ fields_in mark line
    unfolding fields_after
    cut_within quote is = sym (rw (next_byte, ne_eqb _ 34 quote, is) refl) ∙ whole

  -- one byte more of a line that is typed so far
  module _ (more : ℕ) (text : List ℕ) (whole : text ++ typed_after more (drop i line) ≡ typed line) where
    pub typed_more : nat_lt 0 more ≡ true → text ++ typed_after (more - 1) (drop (i + 1) line) ≡ typed line
    unfolding typed_after
    typed_more is = sym (ap (λ rest. text ++ typed_after more rest) next_byte ∙ rw is refl) ∙ whole

    pub typed_next : nat_lt 0 more ≡ false → (text ++ plain (meant (drop i line)).0 ∷ []) ++ typed_after (meant (drop i line)).1 (drop (i + 1) line) ≡ typed line
    typed_next is =
        let one : typed_after more (drop i line) ≡ plain (meant (drop i line)).0 ∷ typed_after (meant (drop i line)).1 (drop (i + 1) line) = rw next_byte (typed_one more (get_or line i 0) (drop (i + 1) line) is) in
        joined text (plain (meant (drop i line)).0) (typed_after (meant (drop i line)).1 (drop (i + 1) line)) ∙ ap (λ rest. text ++ rest) (sym one) ∙ whole

-- at the end of a line
pub count_past : (line : List ℕ) (i mark : ℕ) (quoted : Bool) (count : ℕ) → length line ≤ i → count + count_outside mark quoted (drop i line) ≡ count_outside mark false line → count ≡ count_outside mark false line
unfolding count_outside
count_past line i mark quoted count past whole =
    let none : count + count_outside mark quoted (drop i line) ≡ count + 0 = rw (drop_all i line past) refl in
    omega (arith, none, whole)

pub place_end : (line : List ℕ) (i mark left : ℕ) (quoted : Bool) (place : ℕ) → length line ≤ i → i ≤ length line → i + place_after mark left quoted (drop i line) ≡ place → length line ≡ place
unfolding place_after
place_end line i mark left quoted place past within whole =
    let none : i + place_after mark left quoted (drop i line) ≡ i + 0 = rw (drop_all i line past) refl in
    omega (arith, none, whole, past, within)

pub cut_past : (line : List ℕ) (i mark : ℕ) (quoted : Bool) (fields : List (List ℕ)) (field : List ℕ) → length line ≤ i → fields_after mark quoted fields field (drop i line) ≡ fields_in mark line
    → fields ++ trim field ∷ [] ≡ fields_in mark line
unfolding fields_after
cut_past line i mark quoted fields field past whole = sym (rw (drop_all i line past) refl) ∙ whole

pub typed_past : (line : List ℕ) (i more : ℕ) (text : List ℕ) → length line ≤ i → text ++ typed_after more (drop i line) ≡ typed line → text ≡ typed line
unfolding typed_after
typed_past line i more text past whole = sym (rw (drop_all i line past) (append-nil text)) ∙ whole

-- tests of a number
pub is_above : (n : ℕ) → 0 < n → nat_lt 0 n ≡ true
is_above n h = grind (arith, nat_tests)

pub is_none : (n : ℕ) → n ≤ 0 → nat_lt 0 n ≡ false
is_none n h = grind (arith, nat_tests)
