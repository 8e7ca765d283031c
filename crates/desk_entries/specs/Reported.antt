-- The rows of the docket that stands, as reports take them: each with its own number, and what it asks for by the places that
-- things have by then.
use Rattle.std.specs.Prelude.{◌≡◌, ◌<◌, ℕ, List, [], ◌∷◌, ◌++◌, Option, Some, None, length, if◌then◌else◌}
use Rattle.case_numbers.specs.Words.{after_name}
use Rattle.docket_rows.specs.Words.{opening_rows, setup_of}
use Rattle.row_forms.specs.declared.numbered.NumberedRow.{NumberedRow}
use Rattle.row_forms.specs.Words.{names_of, rows_of}
use Rattle.row_forms.specs.declared.line.line.Line.{Line}
use Rattle.row_forms.specs.declared.line.line.Line.TheVariants as line
use Rattle.row_forms.specs.Line.Words.{line_read}
use Rattle.office_texts.specs.Run.Words.{docketed_after}
use Rattle.desk_numbers.specs.declared.moved.Moved.{Moved}
use Rattle.desk_numbers.specs.Words.{placed}
use Rattle.desk_numbers.specs.Strikes.Words.{is_struck}
use Rattle.desk_register.specs.declared.standing.Standing.{Standing}
use Rattle.desk_register.specs.Words.{Note, docketed_by, most_clerks, next_number, note_in, run_by}

-- the row of a line that says this, which has that number, where this is what isn't at the place of its number
abbrev pub said_standing : List Moved → (number : ℕ) → Line → List NumberedRow
said_standing moved number line.Blank = []
said_standing moved number (line.Fault cause) = []
said_standing moved number (line.Row row) = record { number = number; row = record { clerk = row.clerk; work = placed moved row.work } } ∷ []

-- the row of an entry after these: none of an entry that is no row, and none of a row that is struck
abbrev pub standing_as : Option Note → Standing → (kept : List (List ℕ)) → (entry : List ℕ) → List NumberedRow
standing_as (Some note) under kept entry = []
standing_as None under kept entry =
    if is_struck under.corrections (next_number kept) then []
    else said_standing (run_by under kept).numbers.moved (next_number kept) (line_read most_clerks (names_of under.court) (after_name entry))

-- the rows of entries that come after these
unfoldable pub standing_after : Standing → (kept : List (List ℕ)) → (later : List (List ℕ)) → List NumberedRow
standing_after under kept [] = []
standing_after under kept (entry ∷ later) = standing_as (note_in entry) under kept entry ++ standing_after under (kept ++ entry ∷ []) later

-- the rows of entries, of which the first is a court's file
abbrev pub rows_standing : Standing → (entries : List (List ℕ)) → List NumberedRow
rows_standing under [] = []
rows_standing under (file ∷ later) = standing_after under (file ∷ []) later

-- What these rows docket, one after another, is what the entries have docketed: a report of them is one of the desk's docket.
abbrev pub ReportsAreOfTheDocket : Type 0
ReportsAreOfTheDocket = (under : Standing) (entries : List (List ℕ)) → 0 < length entries
    → docketed_after (setup_of under.court) (opening_rows (setup_of under.court)) (rows_of (rows_standing under entries)) ≡ docketed_by under entries
