-- Names as strings.
use Rattle.std.specs.Prelude.{ℕ, List, String, map, string_bytes}
use Rattle.std.specs.declared.alloc.Global.{Global}

-- their texts
abbrev pub texts_of : List (String Global) → List (List ℕ)
texts_of names = map string_bytes names
