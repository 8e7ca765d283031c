-- The text of a row, field by field.
use Rattle.std.proofs.Common.{◌≡◌, ◌==◌, ◌∙◌, ◌+◌, ◌<◌, ◌≤◌, ℕ, zero, suc, Bool, cond, List, [], ◌∷◌, ◌++◌, Some, None, true, false, length, drop, get_or, refl, sym, ap, add-one, append_assoc, arith}
use Rattle.std.proofs.lemmas.Option.{same_Some}
use Rattle.std.proofs.lemmas.Bool.{ne_eqb}
use Rattle.std.proofs.lemmas.List.{append-nil, drop_all, drop_more}
use Rattle.csv.specs.Records.{field_at}
use Rattle.csv.specs.Writing.{default_writer, escaped, field_text, fields_text, is_blank, needs_quotes, row_body}

-- the field at a place, and those after it
field_after : (fields : List (List ℕ)) (i : ℕ) (field : List ℕ) → field_at fields i ≡ Some field → drop i fields ≡ field ∷ drop (suc i) fields
unfolding field_at
field_after [] i field at = cc at
field_after (x ∷ fields) zero field at = ap (λ (f : List ℕ). f ∷ fields) (same_Some _ _ at)
field_after (x ∷ fields) (suc i) field at = field_after fields i field at

pub field_next : (fields : List (List ℕ)) (i : ℕ) (field : List ℕ) → field_at fields i ≡ Some field → drop i fields ≡ field ∷ drop (i + 1) fields
field_next fields i field at = rw add-one (field_after fields i field at)

-- there is one at each place before the end
pub field_there : (fields : List (List ℕ)) (i : ℕ) → i < length fields → field_at fields i ≡ None → ⊥
unfolding field_at
field_there [] i there none = absurd (omega arith)
field_there (x ∷ fields) zero there none = cc none
field_there (x ∷ fields) (suc i) there none = field_there fields i (omega arith) none

-- a field that is written as nothing is empty
unquoted : (field : List ℕ) → (length (field_text default_writer field) == 0) ≡ (length field == 0)
unquoted [] = refl
unquoted (b ∷ field) = by (needs_quotes default_writer (b ∷ field))
  where
    by : (quotes : Bool) → (length (cond quotes (34 ∷ (escaped default_writer (b ∷ field) ++ (34 ∷ []))) (b ∷ field)) == 0) ≡ (length (b ∷ field) == 0)
    by true = ne_eqb (suc _) 0 (λ z. cc z) ∙ sym (ne_eqb (suc _) 0 (λ z. cc z))
    by false = refl

-- whether a row shows no byte
pub blank_of_many : (fields : List (List ℕ)) → 1 < length fields → is_blank default_writer fields ≡ false
unfolding is_blank
blank_of_many [] many = absurd (omega arith)
blank_of_many (x ∷ []) many = absurd (omega arith)
blank_of_many (x ∷ y ∷ fields) many = refl

pub blank_of_one : (fields : List (List ℕ)) (field : List ℕ) → length fields ≤ 1 → field_at fields 0 ≡ Some field → is_blank default_writer fields ≡ (length field == 0)
unfolding is_blank field_at
blank_of_one [] field few at = cc at
blank_of_one (x ∷ []) field few at = rw (← same_Some _ _ at) (unquoted x)
blank_of_one (x ∷ y ∷ fields) field few at = absurd (omega arith)

pub blank_of_none : (fields : List (List ℕ)) → field_at fields 0 ≡ None → is_blank default_writer fields ≡ true
unfolding is_blank field_at
blank_of_none [] at = refl
blank_of_none (x ∷ fields) at = cc at

-- one byte more of a field between quotes, of which this much is written
module _ (field : List ℕ) (i : ℕ) (there : i < length field) (text all : List ℕ) (whole : text ++ escaped default_writer (drop i field) ≡ all) where
  next_byte : drop i field ≡ get_or field i 0 ∷ drop (i + 1) field
  next_byte = drop_more field i 0 there

  pub escaped_quote : (after last : List ℕ) → get_or field i 0 ≡ 34 → after ≡ text ++ (34 ∷ []) → last ≡ after ++ (get_or field i 0 ∷ []) → last ++ escaped default_writer (drop (i + 1) field) ≡ all
  unfolding escaped
  escaped_quote after last is first second =
      let two : escaped default_writer (drop i field) ≡ 34 ∷ 34 ∷ escaped default_writer (drop (i + 1) field) = rw (next_byte, is) refl in
      rw (second, first, is) (simp append_assoc (rw two at whole))

  pub escaped_plain : (last : List ℕ) → (get_or field i 0 ≡ 34 → ⊥) → last ≡ text ++ (get_or field i 0 ∷ []) → last ++ escaped default_writer (drop (i + 1) field) ≡ all
  unfolding escaped
  escaped_plain last other one =
      let next : escaped default_writer (drop i field) ≡ get_or field i 0 ∷ escaped default_writer (drop (i + 1) field) = rw (next_byte, ne_eqb _ 34 other) refl in
      rw one (simp append_assoc (rw next at whole))

pub escaped_past : (field : List ℕ) (i : ℕ) (text all : List ℕ) → length field ≤ i → text ++ escaped default_writer (drop i field) ≡ all → text ≡ all
unfolding escaped
escaped_past field i text all past whole = sym (append-nil text) ∙ rw (drop_all i field past) at whole

-- the first field of a row, and those after it
pub fields_first : (fields : List (List ℕ)) (field text before : List ℕ) → field_at fields 0 ≡ Some field → text ≡ before ++ field_text default_writer field
    → text ++ fields_text default_writer (drop 1 fields) ≡ before ++ row_body default_writer fields
unfolding field_at
fields_first [] field text before at is = cc at
fields_first (x ∷ fields) field text before at is = rw (is, ← same_Some _ _ at) (append_assoc before (field_text default_writer x) (fields_text default_writer fields))

pub fields_none : (fields : List (List ℕ)) (text : List ℕ) → field_at fields 0 ≡ None → text ++ fields_text default_writer (drop 1 fields) ≡ text ++ row_body default_writer fields
unfolding field_at fields_text
fields_none [] text at = refl
fields_none (x ∷ fields) text at = cc at

-- one field more
pub fields_more : (fields : List (List ℕ)) (i : ℕ) (field text comma last all : List ℕ) → field_at fields i ≡ Some field → text ++ fields_text default_writer (drop i fields) ≡ all
    → comma ≡ text ++ (44 ∷ []) → last ≡ comma ++ field_text default_writer field → last ++ fields_text default_writer (drop (i + 1) fields) ≡ all
unfolding fields_text
fields_more fields i field text comma last all at whole first second =
    rw (second, first) (simp append_assoc (rw (field_next fields i field at) at whole))

pub fields_past : (fields : List (List ℕ)) (i : ℕ) (text all : List ℕ) → length fields ≤ i → text ++ fields_text default_writer (drop i fields) ≡ all → text ≡ all
unfolding fields_text
fields_past fields i text all past whole = sym (append-nil text) ∙ rw (drop_all i fields past) at whole
