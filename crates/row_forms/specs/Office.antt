-- What the desk makes of the rows of clerk_office.
use Rattle.std.specs.Prelude.{◌≡◌, ℕ, Bool, true, false, not, List, Ok}
use Rattle.std.specs.List.{All}
use Rattle.docket_rows.specs.declared.command.Command.TheVariants as command
use Rattle.docket_rows.specs.declared.query.Query.TheVariants as query
use Rattle.rule_periods.specs.Words.{is_order, is_set}
use Rattle.row_forms.specs.declared.row.Row.{Row}
use Rattle.row_forms.specs.declared.row.Work.{Work}
use Rattle.row_forms.specs.declared.row.Work.TheVariants.{Command, Query}
use Rattle.row_forms.specs.CourtNames.{CourtNames}
use Rattle.row_forms.specs.Rows.{office_row_of, row_of, rows_read}

-- it asks for nothing that the desk alone takes: no order sets its period, or another end, and it records no fact of a case
abbrev pub is_office_work : Work → Bool
is_office_work (Command (command.OpenCase case filed)) = true
is_office_work (Command (command.Start case period event second service)) = not (is_set period)
is_office_work (Command (command.FileAct case deadline filing)) = true
is_office_work (Command (command.Extend case deadline request)) = not (is_order request.grant)
is_office_work (Command (command.Motion case served need)) = true
is_office_work (Command (command.Book setting)) = true
is_office_work (Command (command.MoveHearing setting)) = true
is_office_work (Command (command.Cancel case motion)) = true
is_office_work (Command (command.Holiday day list)) = true
is_office_work (Command (command.Inaccessible day from to)) = true
is_office_work (Command (command.Fact case fact)) = false
is_office_work (Query (query.Compute period event second service)) = not (is_set period)
is_office_work (Query (query.Sheet case)) = true
is_office_work (Query (query.JudgeDay judge day)) = true

-- What clerk_office reads, the desk reads alike, and it asks for nothing of the desk's own.
abbrev pub OfficeRowsAreReadAlike : Type 0
OfficeRowsAreReadAlike = (clerks : ℕ) (names : CourtNames) (fields : List (List ℕ)) (row : Row) → office_row_of clerks names fields ≡ Ok row → (row_of clerks names fields ≡ Ok row) × (is_office_work row.work ≡ true)

-- No row of an input of clerk_office asks for anything of the desk's own.
abbrev pub RowsAreOfficeWork : Type 0
RowsAreOfficeWork = (clerks : ℕ) (names : CourtNames) (bytes : List ℕ) (rows : List Row) → rows_read clerks names bytes ≡ Ok rows → All (λ (row : Row). is_office_work row.work ≡ true) rows
