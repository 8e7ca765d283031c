-- Where the input is divided into the court's file and the rows.
use Rattle.std.specs.Prelude.{ℕ, ◌==◌, Bool, true, false, List, [], ◌∷◌, Option, Some, None, length, drop, codes, nat_eq, if◌then◌else◌}
use Rattle.std.specs.List.{starts_with}
use Rattle.std.specs.Option.{option_or, option_and_then}

-- the bytes after a beginning, where they have it
abbrev pub behind : List ℕ → List ℕ → Option (List ℕ)
behind beginning bytes = if starts_with nat_eq bytes beginning then Some (drop (length beginning) bytes) else None

-- the bytes after the end of a line: LF, CR LF, or the end of the input
abbrev pub behind_line_end : List ℕ → Option (List ℕ)
behind_line_end [] = Some []
behind_line_end (b ∷ bytes) = option_or (behind (10 ∷ []) (b ∷ bytes)) (behind (13 ∷ 10 ∷ []) (b ∷ bytes))

-- the bytes after the line `%%`, where they begin a line and that line is it
abbrev pub behind_divider : Bool → List ℕ → Option (List ℕ)
behind_divider false bytes = None
behind_divider true bytes = option_and_then behind_line_end (behind (codes "%%") bytes)

-- what is divided at a place: the rows where the divider is there, else one more byte before what is divided later
abbrev pub divided_at : Option (List ℕ) → ℕ → List ℕ × List ℕ → List ℕ × List ℕ
divided_at (Some rows) b later = ([], rows)
divided_at None b later = (b ∷ later.0, later.1)

-- the bytes before and after the first line `%%`; without one, all of them and none. The test says whether the first byte begins a line.
unfoldable pub divided_from : Bool → List ℕ → List ℕ × List ℕ
divided_from begins_line [] = ([], [])
divided_from begins_line (b ∷ bytes) = divided_at (behind_divider begins_line (b ∷ bytes)) b (divided_from (b == 10) bytes)

-- the court's file: all before the first line `%%`
abbrev pub court_part : List ℕ → List ℕ
court_part input = (divided_from true input).0

-- the rows: all after that line
abbrev pub rows_part : List ℕ → List ℕ
rows_part input = (divided_from true input).1
