-- A property of a calendar or of an event, as a content line.
use Rattle.std.specs.Prelude.{ℕ, List, ◌∷◌, ◌++◌}
use Rattle.std.specs.List.{flat_map}
use Rattle.content_lines.specs.Escaping.{escaped}
use Rattle.content_lines.specs.Folding.{sent_line}

-- `NAME:value`
unfoldable pub property : (name value : List ℕ) → List ℕ
property name value = name ++ 58 ∷ escaped value

-- what is sent of some lines
abbrev pub sent : (lines : List (List ℕ)) → List ℕ
sent lines = flat_map sent_line lines
