-- Entries by which a row is struck: `%%strike 7`, then what rows gave, and a remark on the lines below.
use Rattle.std.specs.Prelude.{ℕ, List, ◌++◌, Option, codes, option_map}
use Rattle.std.specs.Fmt.{decimal}
use Rattle.desk_numbers.specs.declared.said.Said.{Said}
use Rattle.desk_numbers.specs.declared.strikes.strike.Strike.{Strike}
use Rattle.desk_numbers.specs.Strikes.Line.{row_after}
use Rattle.desk_numbers.specs.Strikes.SaidText.{entry_with}

-- with what such an entry begins; a row never begins so
abbrev pub strike_mark : List ℕ
strike_mark = codes "%%strike "

-- what its first line says first: the row
abbrev pub strike_line : Strike → List ℕ
strike_line strike = strike_mark ++ decimal strike.row

-- the entry, which says what rows gave, and has a remark
unfoldable pub strike_entry : Strike → List Said → (remark : List ℕ) → List ℕ
strike_entry strike said remark = entry_with (strike_line strike) said remark

-- the strike that an entry is, if it is one
abbrev pub strike_from : (row : ℕ) → Strike
strike_from row = record { row = row }

unfoldable pub strike_in : (entry : List ℕ) → Option Strike
strike_in entry = option_map strike_from (row_after strike_mark entry)
