-- What a line comes to: plain rows, headings or faults.
use Rattle.std.specs.Prelude.{ℕ, List, [], ◌∷◌, ◌++◌, map, option_map, Option, Some, None}
use Rattle.csv.specs.Records.{fields_of}
use Rattle.desk_journal.specs.Words.{batch_of}
use Rattle.row_written.specs.declared.rows.Written.{Written}
use Rattle.row_written.specs.declared.rows.Written.TheVariants.{Nothing, Header, Plain, Labelled, Faulty}
use Rattle.row_written.specs.Words.{FieldFault, fault_in}
use Rattle.row_input.specs.declared.line_rows.LineRows.{LineRows}

-- the headings of the columns of the lines after it, if it names some, its plain rows, and what is wrong with its fields
pub record RowsOfLine : Type 0 where
  pub header : Option (List (List ℕ))
  pub rows : List (List ℕ)
  pub faults : List FieldFault

abbrev pub rows_said : LineRows → RowsOfLine
rows_said said = record { header = option_map fields_of said.header; rows = batch_of said.rows.items; faults = map fault_in said.faults.items }

abbrev pub no_rows : RowsOfLine
no_rows = record { header = None; rows = []; faults = [] }

-- the faults of the first row that has some: each row of a line may have those of the others
abbrev pub first_faults : List FieldFault → (more : List FieldFault) → List FieldFault
first_faults [] more = more
first_faults (fault ∷ faults) more = fault ∷ faults

-- with what is read of a row
abbrev pub with_row : RowsOfLine → Written (List (List ℕ)) (List ℕ) (List FieldFault) → RowsOfLine
with_row said Nothing = said
with_row said (Header headings) = record { header = Some headings; rows = said.rows; faults = said.faults }
with_row said (Plain text) = record { header = said.header; rows = said.rows ++ text ∷ []; faults = said.faults }
with_row said (Labelled text label) = record { header = said.header; rows = said.rows ++ text ∷ label ∷ []; faults = said.faults }
with_row said (Faulty faults) = record { header = said.header; rows = said.rows; faults = first_faults said.faults faults }
