-- The numbers of a text of which something is left out.
use Rattle.std.proofs.Common.{◌≡◌, ◌∙◌, ◌&&◌, ℕ, Bool, true, false, List, [], ◌∷◌, ◌++◌, refl, sym, ap, arith}
use Rattle.std.specs.Prelude.{if◌then◌else◌}
use Rattle.std.specs.Char.{is_ascii_digit}
use Rattle.std.proofs.lemmas.Bool.Decides.{nat_tests}
use Rattle.row_fields.specs.Laws.{NumbersStayWhole}
use Rattle.row_fields.specs.Letters.{is_other, is_slack, small, staying, stripped}
use Rattle.row_fields.specs.Numbers.{numbers_after, with_number}

-- a digit is its own small letter, and no other byte becomes one
small_digit : (b : ℕ) → is_ascii_digit b ≡ true → small b ≡ b
small_digit b is = grind (arith, nat_tests)

small_other : (b : ℕ) → is_ascii_digit b ≡ false → is_ascii_digit (small b) ≡ false
small_other b is = grind (arith, nat_tests)

-- what is left out is no digit
other_is_none : (last b : ℕ) → is_other last b ≡ true → is_ascii_digit b ≡ false
other_is_none last b out = grind (arith, nat_tests)

slack_is_none : (last b : ℕ) → is_slack last b ≡ true → is_ascii_digit b ≡ false
slack_is_none last b out = grind (arith, nat_tests)

-- a byte more of a text, of whose first number these are the digits
digit_more : (number text : List ℕ) (b : ℕ) → is_ascii_digit b ≡ true → numbers_after number (b ∷ text) ≡ numbers_after (number ++ b ∷ []) text
unfolding numbers_after
digit_more number text b is = rw is refl

number_ends : (number text : List ℕ) (b : ℕ) → is_ascii_digit b ≡ false → numbers_after number (b ∷ text) ≡ with_number number (numbers_after [] text)
unfolding numbers_after
number_ends number text b is = rw is refl

-- a byte that stays, before what stays of a text
starts_digit : (b : ℕ) (kept text : List ℕ) → is_ascii_digit b ≡ true → ((number : List ℕ) → numbers_after number kept ≡ numbers_after number text)
    → (number : List ℕ) → numbers_after number (b ∷ kept) ≡ numbers_after number (b ∷ text)
starts_digit b kept text is same number = digit_more number kept b is ∙ same (number ++ b ∷ []) ∙ sym (digit_more number text b is)

starts_other : (b : ℕ) (kept text : List ℕ) → is_ascii_digit b ≡ false → numbers_after [] kept ≡ numbers_after [] text
    → (number : List ℕ) → numbers_after number (small b ∷ kept) ≡ numbers_after number (b ∷ text)
starts_other b kept text is same number = number_ends number kept (small b) (small_other b is) ∙ ap (with_number number) same ∙ sym (number_ends number text b is)

-- how a byte stays
chosen : Bool → ℕ → List ℕ
chosen divided b = if divided then 32 ∷ small b ∷ [] else small b ∷ []

staying_is : (gap : Bool) (last b : ℕ) (after this : Bool) → is_ascii_digit last ≡ after → is_ascii_digit b ≡ this → staying gap last b ≡ chosen (gap && after && this) b
unfolding chosen
staying_is gap last b after this is_after is_this = rw (is_after, is_this) refl

-- What stays of a text has its numbers: after no digit; after a digit; and after a digit and something that was left out, which
-- ends the number.
record Stays (leaves_out : ℕ → ℕ → Bool) (text : List ℕ) : Type 0 where
  after_other : (last : ℕ) (gap : Bool) → is_ascii_digit last ≡ false → numbers_after [] (stripped leaves_out last gap text) ≡ numbers_after [] text
  after_digit : (last : ℕ) → is_ascii_digit last ≡ true → (number : List ℕ) → numbers_after number (stripped leaves_out last false text) ≡ numbers_after number text
  after_gap : (last : ℕ) → is_ascii_digit last ≡ true → (number : List ℕ) → numbers_after number (stripped leaves_out last true text) ≡ with_number number (numbers_after [] text)

module _ (leaves_out : ℕ → ℕ → Bool) (none : (last b : ℕ) → leaves_out last b ≡ true → is_ascii_digit b ≡ false) where
  -- a byte that is left out, and one that stays
  out_first : (last b : ℕ) (gap : Bool) (text : List ℕ) → leaves_out last b ≡ true → stripped leaves_out last gap (b ∷ text) ≡ stripped leaves_out last true text
  unfolding stripped
  out_first last b gap text out = rw out refl

  in_first : (last b : ℕ) (gap after this : Bool) (text : List ℕ) → leaves_out last b ≡ false → is_ascii_digit last ≡ after → is_ascii_digit b ≡ this
      → stripped leaves_out last gap (b ∷ text) ≡ chosen (gap && after && this) b ++ stripped leaves_out b false text
  unfolding stripped
  in_first last b gap after this text out is_after is_this = rw out (ap (λ first. first ++ stripped leaves_out b false text) (staying_is gap last b after this is_after is_this))

  module _ (b : ℕ) (text : List ℕ) (rest : Stays leaves_out text) where
    other_more : (last : ℕ) (gap : Bool) → is_ascii_digit last ≡ false → numbers_after [] (stripped leaves_out last gap (b ∷ text)) ≡ numbers_after [] (b ∷ text)
    unfolding chosen
    other_more last gap is = by (leaves_out last b) (is_ascii_digit b) gap refl refl refl
      where
        by : (out this wide : Bool) → leaves_out last b ≡ out → is_ascii_digit b ≡ this → gap ≡ wide → numbers_after [] (stripped leaves_out last gap (b ∷ text)) ≡ numbers_after [] (b ∷ text)
        by true this wide e d g = ap (numbers_after []) (out_first last b gap text e) ∙ rest.after_other last true is ∙ sym (number_ends [] text b (none last b e))
        by false true wide e d g =
            ap (numbers_after []) (in_first last b gap false true text e is d) ∙ ap (λ (first : List ℕ). numbers_after [] (first ++ stripped leaves_out b false text)) (plain gap)
            ∙ starts_digit b (stripped leaves_out b false text) text d (rest.after_digit b d) []
          where
            plain : (g : Bool) → chosen (g && false && true) b ≡ b ∷ []
            plain true = ap (λ (x : ℕ). x ∷ []) (small_digit b d)
            plain false = ap (λ (x : ℕ). x ∷ []) (small_digit b d)
        by false false wide e d g =
            ap (numbers_after []) (in_first last b gap false false text e is d) ∙ ap (λ (first : List ℕ). numbers_after [] (first ++ stripped leaves_out b false text)) (plain gap)
            ∙ starts_other b (stripped leaves_out b false text) text d (rest.after_other b false d) []
          where
            plain : (g : Bool) → chosen (g && false && false) b ≡ small b ∷ []
            plain true = refl
            plain false = refl

    digit_next : (last : ℕ) → is_ascii_digit last ≡ true → (number : List ℕ) → numbers_after number (stripped leaves_out last false (b ∷ text)) ≡ numbers_after number (b ∷ text)
    unfolding chosen
    digit_next last is number = by (leaves_out last b) (is_ascii_digit b) refl refl
      where
        by : (out this : Bool) → leaves_out last b ≡ out → is_ascii_digit b ≡ this → numbers_after number (stripped leaves_out last false (b ∷ text)) ≡ numbers_after number (b ∷ text)
        by true this e d = ap (numbers_after number) (out_first last b false text e) ∙ rest.after_gap last is number ∙ sym (number_ends number text b (none last b e))
        by false true e d =
            ap (numbers_after number) (in_first last b false true true text e is d) ∙ ap (λ (x : ℕ). numbers_after number (x ∷ stripped leaves_out b false text)) (small_digit b d)
            ∙ starts_digit b (stripped leaves_out b false text) text d (rest.after_digit b d) number
        by false false e d =
            ap (numbers_after number) (in_first last b false true false text e is d) ∙ starts_other b (stripped leaves_out b false text) text d (rest.after_other b false d) number

    gap_next : (last : ℕ) → is_ascii_digit last ≡ true → (number : List ℕ) → numbers_after number (stripped leaves_out last true (b ∷ text)) ≡ with_number number (numbers_after [] (b ∷ text))
    unfolding chosen
    gap_next last is number = by (leaves_out last b) (is_ascii_digit b) refl refl
      where
        by : (out this : Bool) → leaves_out last b ≡ out → is_ascii_digit b ≡ this → numbers_after number (stripped leaves_out last true (b ∷ text)) ≡ with_number number (numbers_after [] (b ∷ text))
        by true this e d = ap (numbers_after number) (out_first last b true text e) ∙ rest.after_gap last is number ∙ ap (with_number number) (sym (number_ends [] text b (none last b e)))
        by false true e d =
            ap (numbers_after number) (in_first last b true true true text e is d) ∙ ap (λ (x : ℕ). numbers_after number (32 ∷ x ∷ stripped leaves_out b false text)) (small_digit b d)
            ∙ number_ends number (b ∷ stripped leaves_out b false text) 32 refl ∙ ap (with_number number) (starts_digit b (stripped leaves_out b false text) text d (rest.after_digit b d) [])
        by false false e d =
            ap (numbers_after number) (in_first last b true true false text e is d) ∙ starts_other b (stripped leaves_out b false text) text d (rest.after_other b false d) number
            ∙ number_ends number text b d ∙ ap (with_number number) (sym (number_ends [] text b d))

  numbers_stay : (text : List ℕ) → Stays leaves_out text
  unfolding numbers_after stripped
  numbers_stay [] = record { after_other = λ last gap is. refl; after_digit = λ last is number. refl; after_gap = λ last is number. refl }
  numbers_stay (b ∷ text) = record { after_other = other_more b text (numbers_stay text); after_digit = digit_next b text (numbers_stay text); after_gap = gap_next b text (numbers_stay text) }

pub numbers_stay_whole_lem : NumbersStayWhole
numbers_stay_whole_lem text = ((numbers_stay is_slack slack_is_none text).after_other 0 false refl, (numbers_stay is_other other_is_none text).after_other 0 false refl)
