-- One line, read as a row.
use Rattle.std.specs.Prelude.{ℕ, List, [], ◌∷◌, Result, Ok, Err}
use Rattle.csv.specs.Reading.{default_config, records, strip_bom}
use Rattle.row_forms.specs.declared.fault.RowCause.{RowCause}
use Rattle.row_forms.specs.declared.line.line.Line.{Line}
use Rattle.row_forms.specs.declared.line.line.Line.TheVariants.{Blank, Fault, Row}
use Rattle.row_forms.specs.declared.row.Row.{Row as RowOf}
use Rattle.row_forms.specs.Words.{CourtNames, row_of}

-- what a record says
abbrev pub line_spelling : Result RowOf RowCause → Line
line_spelling (Ok row) = Row row
line_spelling (Err cause) = Fault cause

-- what the first of these records says
abbrev pub first_line : ℕ → CourtNames → List (List (List ℕ)) → Line
first_line clerks names [] = Blank
first_line clerks names (fields ∷ more) = line_spelling (row_of clerks names fields)

-- the fields of the first of them
abbrev pub first_fields : List (List (List ℕ)) → List (List ℕ)
first_fields [] = []
first_fields (fields ∷ more) = fields

-- what the first record of these bytes says
unfoldable pub line_read : ℕ → CourtNames → List ℕ → Line
line_read clerks names bytes = first_line clerks names (records default_config (strip_bom bytes))

-- the fields of that record
unfoldable pub fields_read : List ℕ → List (List ℕ)
fields_read bytes = first_fields (records default_config (strip_bom bytes))
