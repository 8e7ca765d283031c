-- What rows that were read come to: how many there may be, and whose.
use Rattle.std.specs.Prelude.{◌≡◌, ◌<◌, ◌≤◌, ℕ, List, length, Ok}
use Rattle.std.specs.List.{All}
use Rattle.row_forms.specs.declared.row.Row.{Row}
use Rattle.row_forms.specs.CourtNames.{CourtNames}
use Rattle.row_forms.specs.Rows.{rows_read}

-- this is the number of one of the clerks, who are numbered from 1
pub record IsClerk (clerks clerk : ℕ) : Type 0 where
  pub from_one : 0 < clerk
  pub to_last : clerk ≤ clerks

-- the row is that of one of the clerks
abbrev pub IsOfClerk : (clerks : ℕ) → Row → Type 0
IsOfClerk clerks row = IsClerk clerks row.clerk

-- No more rows are read than the office takes, and each is that of one of the clerks.
abbrev pub RowsAreBounded : Type 0
RowsAreBounded = (clerks : ℕ) (names : CourtNames) (bytes : List ℕ) (rows : List Row) → rows_read clerks names bytes ≡ Ok rows → (length rows ≤ 100_000) × All (IsOfClerk clerks) rows
