-- The numbers of a text.
use Rattle.std.specs.Prelude.{ℕ, List, [], ◌∷◌, ◌++◌, if◌then◌else◌}
use Rattle.std.specs.Char.{is_ascii_digit}

-- a number before others, if it has a digit
abbrev pub with_number : List ℕ → List (List ℕ) → List (List ℕ)
with_number [] numbers = numbers
with_number (digit ∷ number) numbers = (digit ∷ number) ∷ numbers

-- the numbers of a text after these digits of the first
unfoldable pub numbers_after : List ℕ → List ℕ → List (List ℕ)
numbers_after number [] = with_number number []
numbers_after number (b ∷ text) =
    if is_ascii_digit b then numbers_after (number ++ b ∷ []) text
    else with_number number (numbers_after [] text)

-- the numbers of a text: digits one after another, as many as there are
abbrev pub numbers_in : List ℕ → List (List ℕ)
numbers_in text = numbers_after [] text
