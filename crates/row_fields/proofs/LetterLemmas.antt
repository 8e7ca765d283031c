-- Letters and digits of a text, byte by byte.
use Rattle.std.proofs.Common.{◌≡◌, ◌∙◌, ◌+◌, ◌<◌, ◌≤◌, ℕ, Bool, true, false, List, ◌∷◌, ◌++◌, length, drop, get_or, refl, sym, ap, append_assoc, append-nil}
use Rattle.std.proofs.lemmas.List.{drop_all, drop_more}
use Rattle.row_fields.specs.Letters.{staying, stripped}

-- one byte more of a text, of which this much stays
module _ (leaves_out : ℕ → ℕ → Bool) (text : List ℕ) (i : ℕ) (there : i < length text) (last : ℕ) (gap : Bool) (word all : List ℕ) (whole : word ++ stripped leaves_out last gap (drop i text) ≡ all) where
  next_byte : drop i text ≡ get_or text i 0 ∷ drop (i + 1) text
  next_byte = drop_more text i 0 there

  pub left_out : leaves_out last (get_or text i 0) ≡ true → word ++ stripped leaves_out last true (drop (i + 1) text) ≡ all
  unfolding stripped
  left_out so = sym (ap (λ rest. word ++ stripped leaves_out last gap rest) next_byte ∙ rw so refl) ∙ whole

  pub stays : leaves_out last (get_or text i 0) ≡ false → (word ++ staying gap last (get_or text i 0)) ++ stripped leaves_out (get_or text i 0) false (drop (i + 1) text) ≡ all
  unfolding stripped
  stays so =
      append_assoc word (staying gap last (get_or text i 0)) (stripped leaves_out (get_or text i 0) false (drop (i + 1) text))
      ∙ sym (ap (λ rest. word ++ stripped leaves_out last gap rest) next_byte ∙ rw so refl) ∙ whole

-- at the end of a text
pub stays_past : (leaves_out : ℕ → ℕ → Bool) (text : List ℕ) (i : ℕ) (last : ℕ) (gap : Bool) (word all : List ℕ) → length text ≤ i → word ++ stripped leaves_out last gap (drop i text) ≡ all → word ≡ all
unfolding stripped
stays_past leaves_out text i last gap word all past whole = sym (ap (λ rest. word ++ stripped leaves_out last gap rest) (drop_all i text past) ∙ append-nil word) ∙ whole
