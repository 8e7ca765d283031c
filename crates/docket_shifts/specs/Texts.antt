-- Texts under the numbers of deadlines or motions.
use Rattle.std.specs.Prelude.{ℕ, Bool, List, Option, Some, None, codes, find, nat_eq}

-- what is shown of a deadline or a motion, with its number
pub record NumberedTextView : Type 0 where
  pub number : ℕ
  pub text : List ℕ

abbrev pub has_number : (number : ℕ) → NumberedTextView → Bool
has_number number t = nat_eq t.number number

-- a text, if there is one, or `none`
abbrev pub text_or_none : Option NumberedTextView → List ℕ
text_or_none None = codes "none"
text_or_none (Some t) = t.text

-- the text under a number, or `none`
abbrev pub text_under : List NumberedTextView → (number : ℕ) → List ℕ
text_under texts number = text_or_none (find (has_number number) texts)
