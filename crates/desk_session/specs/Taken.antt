-- What lines leave in a journal, and what they are answered: a line leaves entries or none, by the entries before it.
use Rattle.std.specs.Prelude.{◌≡◌, ℕ, List, [], ◌∷◌, ◌++◌}

-- what lines leave, after the entries `kept`
unfoldable pub left_by : (leaves : List (List ℕ) → List ℕ → List (List ℕ)) → (kept : List (List ℕ)) → List (List ℕ) → List (List ℕ)
left_by leaves kept [] = []
left_by leaves kept (line ∷ lines) = leaves kept line ++ left_by leaves (kept ++ leaves kept line) lines

-- what they are answered
unfoldable pub told_to : (leaves : List (List ℕ) → List ℕ → List (List ℕ)) → (answers : List (List ℕ) → List ℕ → List ℕ) → (kept : List (List ℕ)) → List (List ℕ) → List ℕ
told_to leaves answers kept [] = []
told_to leaves answers kept (line ∷ lines) = answers kept line ++ told_to leaves answers (kept ++ leaves kept line) lines

-- a line is taken: what it leaves is added to a batch, and its answer to a text
pub record TakesLine (leaves : List (List ℕ) → List ℕ → List (List ℕ)) (answers : List (List ℕ) → List ℕ → List ℕ) (Stands : List (List ℕ) → Type 0) (kept : List (List ℕ)) (line : List ℕ) (batch batch_after : List (List ℕ)) (text text_after : List ℕ) : Type 0 where
  pub stands : Stands (kept ++ leaves kept line)
  pub left : batch_after ≡ batch ++ leaves kept line
  pub told : text_after ≡ text ++ answers kept line

-- the same of lines, one after another
pub record TakesLines (leaves : List (List ℕ) → List ℕ → List (List ℕ)) (answers : List (List ℕ) → List ℕ → List ℕ) (Stands : List (List ℕ) → Type 0) (kept lines : List (List ℕ)) (batch batch_after : List (List ℕ)) (text text_after : List ℕ) : Type 0 where
  pub stands : Stands (kept ++ left_by leaves kept lines)
  pub left : batch_after ≡ batch ++ left_by leaves kept lines
  pub told : text_after ≡ text ++ told_to leaves answers kept lines
