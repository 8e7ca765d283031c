-- A line with a name before a text, read again.
use Rattle.std.proofs.Common.{◌≡◌, ◌∙◌, ◌+◌, ℕ, false, List, [], ◌∷◌, ◌++◌, Some, None, codes, drop, length, length-append, nat_eq, refl, sym, ap, append_assoc}
use Rattle.std.proofs.Math.Seq.{take-append_seam, drop-append_seam}
use Rattle.case_numbers.specs.NameLine.{after_name, first_length, name_before}
use Rattle.case_numbers.specs.Number.{NameView, case_read}
use Rattle.case_numbers.proofs.ShownLemmas.{shown_is_read_back_lem}
use Rattle.case_numbers.proofs.PlainLemmas.{line_of_plain, plain_case}

-- a name that was read from a text, in its line before another
module _ (text : List ℕ) (name : NameView) (read : case_read text ≡ Some name) (rest : List ℕ) where
  first : first_length (name.shown ++ 10 ∷ rest) ≡ length name.shown
  first = line_of_plain name.shown rest (plain_case text name read)

  pub name_of_line : name_before (codes "%%case " ++ name.shown ++ 10 ∷ rest) ≡ Some name
  unfolding name_before
  name_of_line = rw (first, take-append_seam name.shown (10 ∷ rest)) (shown_is_read_back_lem text name read)

  pub rest_of_line : after_name (codes "%%case " ++ name.shown ++ 10 ∷ rest) ≡ rest
  unfolding after_name
  rest_of_line =
      let whole : (name.shown ++ 10 ∷ []) ++ rest ≡ name.shown ++ 10 ∷ rest = append_assoc name.shown (10 ∷ []) rest in
      let many : first_length (name.shown ++ 10 ∷ rest) + 1 ≡ length (name.shown ++ 10 ∷ []) = ap (λ n. n + 1) first ∙ sym (length-append name.shown (10 ∷ [])) in
      ap (λ n. drop n (name.shown ++ 10 ∷ rest)) many ∙ ap (drop (length (name.shown ++ 10 ∷ []))) (sym whole) ∙ drop-append_seam (name.shown ++ 10 ∷ []) rest

-- a text that begins with another byte has none
pub no_name_line : (b : ℕ) (text : List ℕ) → nat_eq 37 b ≡ false → name_before (b ∷ text) ≡ None
unfolding name_before
no_name_line b text other = rw other refl

pub no_name_past : (b : ℕ) (text : List ℕ) → nat_eq 37 b ≡ false → after_name (b ∷ text) ≡ b ∷ text
unfolding after_name
no_name_past b text other = rw other refl
