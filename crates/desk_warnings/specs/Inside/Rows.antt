-- Rows behind references.
use Rattle.std.specs.Prelude.{ℕ, List, map}
use Rattle.std.specs.Borrow.{Bor}

abbrev pub row_texts : List (Bor (List ℕ)) → List (List ℕ)
row_texts rows = map (λ row. row.now) rows
