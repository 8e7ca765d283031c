-- The strike of a row, and the restore of one that is struck.
use Rattle.std.specs.Prelude.{ℕ, ◌-◌, ◌&&◌, Bool, List, [], Option, Some, None, Result, Ok, Err, nat_eq, nat_lt, slice_index_or, if◌then◌else◌}
use Rattle.case_numbers.specs.Words.{after_name}
use Rattle.row_forms.specs.declared.row.Work.{Work}
use Rattle.row_forms.specs.declared.row.Work.TheVariants.{Command, Query}
use Rattle.row_forms.specs.Words.{names_of}
use Rattle.row_forms.specs.declared.line.line.Line.{Line}
use Rattle.row_forms.specs.declared.line.line.Line.TheVariants as line
use Rattle.row_forms.specs.Line.Words.{line_read}
use Rattle.desk_numbers.specs.declared.strikes.restore.Restore.{Restore}
use Rattle.desk_numbers.specs.declared.strikes.strike.Strike.{Strike}
use Rattle.desk_numbers.specs.Strikes.Words.{is_struck}
use Rattle.desk_register.specs.declared.fault.StrikeFault.{StrikeFault}
use Rattle.desk_register.specs.declared.fault.StrikeFault.TheVariants.{AlreadyStruck, NoSuchRow, NotACommand, NotStruck}
use Rattle.desk_register.specs.declared.standing.Standing.{Standing}
use Rattle.desk_register.specs.Entries.{Note, most_clerks, next_number, row_entries}

-- the strike of a row that asks for this
abbrev pub strike_as : (row : ℕ) → Work → Result Strike StrikeFault
strike_as row (Command command) = Ok (record { row = row })
strike_as row (Query query) = Err NotACommand

-- the strike of a row whose line says this
abbrev pub strike_said : (row : ℕ) → Line → Result Strike StrikeFault
strike_said row line.Blank = Err NotACommand
strike_said row (line.Fault cause) = Err NotACommand
strike_said row (line.Row said) = strike_as row said.work

-- the entry of the row of that number, counted from 1
abbrev pub entry_at : (kept : List (List ℕ)) → (row : ℕ) → List ℕ
entry_at kept row = slice_index_or (row_entries kept) (row - 1) []

-- how many rows are still to be passed after an entry, which is this note or a row, where it was `left` of them before it; none where
-- the entry is the row that is looked for
abbrev pub rows_left : Option Note → (left : ℕ) → Option ℕ
rows_left (Some note) left = Some left
rows_left None left = if nat_eq left 0 then None else Some (left - 1)

-- a row of that number was entered
abbrev pub has_row : (kept : List (List ℕ)) → (row : ℕ) → Bool
has_row kept row = nat_lt 0 row && nat_lt row (next_number kept)

-- the strike of the row of that number, or why it can't be struck
unfoldable pub strike_for : Standing → (kept : List (List ℕ)) → (row : ℕ) → Result Strike StrikeFault
strike_for under kept row =
    if has_row kept row then (if is_struck under.corrections row then Err AlreadyStruck else strike_said row (line_read most_clerks (names_of under.court) (after_name (entry_at kept row)))) else Err NoSuchRow

-- the restore of the row of that number, or why it can't be restored
unfoldable pub restore_for : Standing → (kept : List (List ℕ)) → (row : ℕ) → Result Restore StrikeFault
restore_for under kept row =
    if has_row kept row then (if is_struck under.corrections row then Ok (record { row = row }) else Err NotStruck) else Err NoSuchRow
