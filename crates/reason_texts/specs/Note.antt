-- A line beside the reasons.
use Rattle.std.specs.Prelude.{ℕ, ℤ, List, [], ◌∷◌, ◌++◌, Option, codes}
use Rattle.reason_texts.specs.Day.{day_column}
use Rattle.reason_texts.specs.Spaces.{padded}

-- `  Mon 2025-09-01  14 days before the hearing                          6(c)(1)`
unfoldable pub note_line : Option ℤ → (what section : List ℕ) → List ℕ
note_line day what section =
    codes "  " ++ day_column day ++ codes "  " ++ padded what ++ codes "  " ++ section ++ 10 ∷ []
