-- What is found among deadlines, or among motions.
use Rattle.std.proofs.Common.{◌≡◌, ◌∙◌, ◌≤◌, ℕ, Bool, List, [], ◌∷◌, drop, length, map, refl, sym, ap}
use Rattle.std.specs.Prelude.{filter}
use Rattle.std.proofs.lemmas.List.{drop_all}
use Rattle.desk_numbers.specs.declared.subjects.Found.{Found}
use Rattle.desk_numbers.specs.declared.subjects.Found.TheVariants as found
use Rattle.desk_numbers.specs.Subjects.{found_among}

-- what is found where these numbers come after what is found so far
abbrev pub found_after : Found → List ℕ → Found
found_after found.None numbers = found_among numbers
found_after (found.One first) [] = found.One first
found_after (found.One first) (number ∷ more) = found.Two first number
found_after (found.Two first second) numbers = found.Two first second

found_none : (so_far : Found) → found_after so_far [] ≡ so_far
found_none found.None = refl
found_none (found.One first) = refl
found_none (found.Two first second) = refl

-- the numbers of those that fit
abbrev pub numbers_of : {A : Type 0} (number : A → ℕ) (fits : A → Bool) (list : List A) → List ℕ
numbers_of number fits list = map number (filter fits list)

-- after all of them, that is what was found so far
pub found_past : {A : Type 0} (number : A → ℕ) (fits : A → Bool) (list : List A) (i : ℕ) (so_far all : Found) → found_after so_far (numbers_of number fits (drop i list)) ≡ all → length list ≤ i → so_far ≡ all
found_past number fits list i so_far all whole past = sym (ap (λ l. found_after so_far (numbers_of number fits l)) (drop_all i list past) ∙ found_none so_far) ∙ whole
