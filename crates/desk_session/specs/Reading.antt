-- The lines that one read of an input ends.
use Rattle.std.specs.Prelude.{◌≡◌, ℕ, List, [], ◌++◌, Option, Some, None, Vec}
use Rattle.std.specs.declared.alloc.Global.{Global}
use Rattle.desk_session.specs.Lines.{unfinished_of}

-- A line had begun with some bytes, and these came after them: they end the lines, each of which is whole, and the rest begins the next.
pub record IsCutInLines (begun bytes lines rest : List ℕ) : Type 0 where
  pub parts : begun ++ bytes ≡ lines ++ rest
  pub whole : unfinished_of lines ≡ []

-- The same of what a read gives, where there is something; and otherwise nothing came, and no line had begun.
abbrev pub GivesLines : (begun bytes : List ℕ) → Option (Vec ℕ Global) → (rest : List ℕ) → Type 0
GivesLines begun bytes None rest = (bytes ≡ []) × (begun ≡ []) × (rest ≡ [])
GivesLines begun bytes (Some lines) rest = IsCutInLines begun bytes lines.items rest
