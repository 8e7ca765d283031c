-- The words of a date, byte by byte.
use Rattle.std.proofs.Common.{◌≡◌, ◌∙◌, ◌+◌, ◌<◌, ◌≤◌, ℕ, true, false, List, [], ◌∷◌, ◌++◌, length, drop, get_or, refl, sym}
use Rattle.std.proofs.lemmas.List.{drop_all, drop_more}
use Rattle.row_fields.specs.Letters.{small}
use Rattle.row_fields.specs.Dates.{date_words, ended, is_divider, words_after}

-- one byte more of a text, of which this much is divided
module _ (text : List ℕ) (i : ℕ) (there : i < length text) (words : List (List ℕ)) (word : List ℕ) (whole : words_after words word (drop i text) ≡ date_words text) where
  next_byte : drop i text ≡ get_or text i 0 ∷ drop (i + 1) text
  next_byte = drop_more text i 0 there

  pub words_divided : is_divider (get_or text i 0) ≡ true → words_after (ended words word) [] (drop (i + 1) text) ≡ date_words text
  unfolding words_after
  words_divided divides = sym (rw (next_byte, divides) refl) ∙ whole

  pub words_within : is_divider (get_or text i 0) ≡ false → words_after words (word ++ small (get_or text i 0) ∷ []) (drop (i + 1) text) ≡ date_words text
  unfolding words_after
  words_within divides = sym (rw (next_byte, divides) refl) ∙ whole

-- at the end of a text
pub words_past : (text : List ℕ) (i : ℕ) (words : List (List ℕ)) (word : List ℕ) → length text ≤ i → words_after words word (drop i text) ≡ date_words text → ended words word ≡ date_words text
unfolding words_after
words_past text i words word past whole = sym (rw (drop_all i text past) refl) ∙ whole
