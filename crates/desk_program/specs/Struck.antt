-- The list of the rows that are struck now.
use Rattle.std.specs.Prelude.{ℕ, List, [], ◌∷◌, ◌++◌, Option, Some, None, codes, if◌then◌else◌}
use Rattle.std.specs.Fmt.{decimal}
use Rattle.std.specs.List.{flat_map}
use Rattle.desk_numbers.specs.declared.strikes.restore.Restore.{Restore}
use Rattle.desk_numbers.specs.declared.strikes.strike.Strike.{Strike}
use Rattle.desk_numbers.specs.Strikes.Words.{is_among, remark_in, restore_in, strike_in}

-- the row that an entry restores, if it restores one
abbrev pub restored_as : Option Restore → List ℕ
restored_as None = []
restored_as (Some restore) = restore.row ∷ []

-- the rows that entries restore, in their order
abbrev pub rows_restored : (entries : List (List ℕ)) → List ℕ
rows_restored entries = flat_map (λ entry. restored_as (restore_in entry)) entries

-- `row 7 ` and the remark, unless the row is among those that later entries restore
abbrev pub struck_as : Option Strike → (remark : List ℕ) → (restored : List ℕ) → List ℕ
struck_as None remark restored = []
struck_as (Some strike) remark restored = if is_among restored strike.row then [] else codes "row " ++ decimal strike.row ++ codes " " ++ remark

abbrev pub struck_line : (entry : List ℕ) → (restored : List ℕ) → List ℕ
struck_line entry restored = struck_as (strike_in entry) (remark_in entry) restored

-- a line for each strike after which its row isn't restored
unfoldable pub struck_text : (entries : List (List ℕ)) → List ℕ
struck_text [] = []
struck_text (entry ∷ later) = struck_line entry (rows_restored later) ++ struck_text later
