-- Names numbered from 0 in the order of the court's file.
use Rattle.std.specs.Prelude.{ℕ, List, Option, position}
use Rattle.std.specs.Str.{bytes_eq}

-- the number of a name
abbrev pub name_index : List (List ℕ) → List ℕ → Option ℕ
name_index names name = position (bytes_eq name) names
