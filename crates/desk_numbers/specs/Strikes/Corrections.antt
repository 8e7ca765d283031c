-- What strikes and restores come to: the rows that are struck, and the numbers that rows keep.
use Rattle.std.specs.Prelude.{ℕ, Bool, not, List, [], ◌∷◌, ◌++◌, Option, filter, nat_eq, nat_lt, if◌then◌else◌}
use Rattle.std.specs.List.{list_all, list_any}
use Rattle.desk_numbers.specs.declared.given.Given.{Given}

-- the numbers of the rows that are struck, each once, in the order in which they were; and by row the number that it keeps
pub record CorrectionsView : Type 0 where
  pub struck : List ℕ
  pub kept : List (Option Given)

abbrev pub no_corrections : CorrectionsView
no_corrections = record { struck = []; kept = [] }

-- the row of that number is among these
abbrev pub is_among : List ℕ → (row : ℕ) → Bool
is_among struck row = list_any (nat_eq row) struck

-- the row of that number is struck
abbrev pub is_struck : CorrectionsView → (row : ℕ) → Bool
is_struck corrections row = is_among corrections.struck row

-- each row that is struck comes before that of this number
abbrev pub all_before : CorrectionsView → (number : ℕ) → Bool
all_before corrections number = list_all (λ row. nat_lt row number) corrections.struck

-- the rows that are struck with one more
unfoldable pub struck_with : List ℕ → (row : ℕ) → List ℕ
struck_with struck row = if is_among struck row then struck else struck ++ row ∷ []

-- the rows that are struck once this one is restored: the others, in their order
abbrev pub struck_without : List ℕ → (row : ℕ) → List ℕ
struck_without struck row = filter (λ other. not (nat_eq other row)) struck
