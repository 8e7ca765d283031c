-- Rows with their numbers.
use Rattle.std.specs.Prelude.{ℕ, ◌+◌, List, [], ◌∷◌, map}
use Rattle.row_forms.specs.declared.numbered.NumberedRow.{NumberedRow}
use Rattle.row_forms.specs.declared.row.Row.{Row}

-- rows, of which the first has this number and each other the next
unfoldable pub numbered_from : (number : ℕ) → List Row → List NumberedRow
numbered_from number [] = []
numbered_from number (row ∷ rows) = record { number = number; row = row } ∷ numbered_from (number + 1) rows

-- the rows without their numbers
abbrev pub rows_of : List NumberedRow → List Row
rows_of numbered = map (λ (n : NumberedRow). n.row) numbered
