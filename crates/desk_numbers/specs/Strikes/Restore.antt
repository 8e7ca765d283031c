-- Entries by which a row that is struck is restored: `%%restore 7`, then what rows gave, and a remark on the lines below.
use Rattle.std.specs.Prelude.{ℕ, List, ◌++◌, Option, codes, option_map}
use Rattle.std.specs.Fmt.{decimal}
use Rattle.desk_numbers.specs.declared.said.Said.{Said}
use Rattle.desk_numbers.specs.declared.strikes.restore.Restore.{Restore}
use Rattle.desk_numbers.specs.Strikes.Line.{row_after}
use Rattle.desk_numbers.specs.Strikes.SaidText.{entry_with}

-- with what such an entry begins; a row never begins so
abbrev pub restore_mark : List ℕ
restore_mark = codes "%%restore "

-- what its first line says first: the row
abbrev pub restore_line : Restore → List ℕ
restore_line restore = restore_mark ++ decimal restore.row

-- the entry, which says what rows gave, and has a remark
unfoldable pub restore_entry : Restore → List Said → (remark : List ℕ) → List ℕ
restore_entry restore said remark = entry_with (restore_line restore) said remark

-- the restore that an entry is, if it is one
abbrev pub restore_from : (row : ℕ) → Restore
restore_from row = record { row = row }

unfoldable pub restore_in : (entry : List ℕ) → Option Restore
restore_in entry = option_map restore_from (row_after restore_mark entry)
