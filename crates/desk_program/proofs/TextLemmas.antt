-- Texts that grow by parts.
use Rattle.std.proofs.Common.{◌≡◌, ◌∙◌, ◌++◌, ℕ, List, ap, append_assoc}

-- a text after three parts more
pub three_more : (text a b c one two three : List ℕ) → one ≡ text ++ a → two ≡ one ++ b → three ≡ two ++ c → three ≡ text ++ ((a ++ b) ++ c)
three_more text a b c one two three first second third =
    third
    ∙ ap (λ (l : List ℕ). l ++ c) (second ∙ ap (λ (l : List ℕ). l ++ b) first)
    ∙ ap (λ (l : List ℕ). l ++ c) (append_assoc text a b)
    ∙ append_assoc text (a ++ b) c
