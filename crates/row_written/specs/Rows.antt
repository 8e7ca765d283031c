-- Lines as people write them, read as plain rows.
use Rattle.std.specs.Prelude.{ℕ, ◌+◌, ◌-◌, ◌&&◌, ◌||◌, not, nat_eq, nat_lt, Bool, false, List, [], ◌∷◌, ◌++◌, map, codes, length, Option, Some, None, if◌then◌else◌}
use Rattle.std.specs.List.{list_any, starts_with}
use Rattle.std.specs.Str.{bytes_eq}
use Rattle.csv.specs.Writing.{default_writer, row_text}
use Rattle.row_forms.specs.declared.fault.RowCause.{RowCause}
use Rattle.row_forms.specs.declared.fault.RowCause.TheVariants as cause
use Rattle.row_forms.specs.Words.{CourtNames}
use Rattle.row_forms.specs.declared.line.line.Line.{Line}
use Rattle.row_forms.specs.declared.line.line.Line.TheVariants as line
use Rattle.row_forms.specs.Line.Words.{line_read}
use Rattle.row_fields.specs.declared.said.Said.{Said}
use Rattle.row_fields.specs.declared.said.Said.TheVariants as said
use Rattle.row_fields.specs.declared.dates.DateOrder.{DateOrder}
use Rattle.row_fields.specs.Words.{fields_in, folded, separator_of, typed}
use Rattle.row_forms.specs.declared.headings.columns.Column.{Column}
use Rattle.row_forms.specs.declared.headings.columns.Column.TheVariants.{Command, Label}
use Rattle.row_written.specs.declared.fault.Flaw.TheVariants.{Excess, NoCommand, Unclear, Unknown}
use Rattle.row_written.specs.declared.rows.Written.{Written}
use Rattle.row_written.specs.declared.rows.Written.TheVariants as written
use Rattle.row_written.specs.Cases.{asked}
use Rattle.row_forms.specs.Headings.Words.{column_at, columns_of, name_of}
use Rattle.row_written.specs.Fault.{FieldFault, fault_at}
use Rattle.row_written.specs.Fields.{field_said}
use Rattle.row_written.specs.Headings.{heading_faults, heading_of, index_of, is_filled, names_columns, word_at}
use Rattle.row_written.specs.Known.{names_known}
use Rattle.row_written.specs.Labels.{is_label, label_at, row_of_label, made_by, wanted_columns}

-- what is read, in other words
abbrev pub written_map : {A B C D E F : Type 0} → (A → B) → (C → D) → (E → F) → Written A C E → Written B D F
written_map f g h written.Nothing = written.Nothing
written_map f g h (written.Header x) = written.Header (f x)
written_map f g h (written.Plain x) = written.Plain (g x)
written_map f g h (written.Labelled x y) = written.Labelled (g x) (g y)
written_map f g h (written.Faulty x) = written.Faulty (h x)

-- the plain row that is read, if one is
abbrev pub plain_of : Written (List (List ℕ)) (List ℕ) (List FieldFault) → Option (List ℕ)
plain_of written.Nothing = None
plain_of (written.Header headings) = None
plain_of (written.Plain text) = Some text
plain_of (written.Labelled text label) = Some text
plain_of (written.Faulty faults) = None

-- the fields of a line that is typed on plain keys
abbrev pub fields_written : List ℕ → List (List ℕ)
fields_written text = fields_in (separator_of text) text

-- a line with these fields asks for nothing: they are empty, or the first begins with `#`
abbrev pub says_nothing : List (List ℕ) → Bool
says_nothing fields = not (list_any is_filled fields) || starts_with nat_eq (word_at fields 0) (codes "#")

-- the number of the field of a row's column of that number, in a file with these headings: past its fields, where no heading
-- is the column's; without headings the columns are in order
abbrev pub column_place : Option (List (List ℕ)) → (number : ℕ) → Column → ℕ
column_place None number column = number
column_place (Some headings) number column = index_of (name_of column) headings

-- the field of a row's column
abbrev pub value_at : Option (List (List ℕ)) → (fields : List (List ℕ)) → (number : ℕ) → Column → List ℕ
value_at header fields number column = word_at fields (column_place header number column)

-- the text of what a field says, where it says one thing
abbrev pub clear_text : Said (List ℕ) → List ℕ
clear_text said.Unknown = []
clear_text (said.Clear text) = text
clear_text (said.Unclear one other) = []

-- the fault of a field that says nothing that is known, or two things
abbrev pub unclear : (text : List ℕ) → (place : ℕ) → Column → (value : List ℕ) → Said (List ℕ) → List FieldFault
unclear text place column value said.Unknown = fault_at text place (Unknown column) value [] [] ∷ []
unclear text place column value (said.Clear plain) = []
unclear text place column value (said.Unclear one other) = fault_at text place (Unclear column) value one other ∷ []

-- a row with these columns has one for the field of that number
abbrev pub is_wanted : Option (List (List ℕ)) → List Column → ℕ → Bool
is_wanted None columns number = nat_lt number (length columns)
is_wanted (Some headings) columns number =
    bytes_eq (word_at headings number) (codes "note") || list_any (λ column. bytes_eq (name_of column) (word_at headings number)) columns

-- the fault of a field for which a row has no column
abbrev pub excess_fault : Option (List (List ℕ)) → List Column → (text : List ℕ) → (number : ℕ) → (field : List ℕ) → List FieldFault
excess_fault header columns text number field =
    if is_filled field && not (is_wanted header columns number) then fault_at text number Excess field [] [] ∷ [] else []

-- the faults of fields, of which the first has this number, for which a row has no column
unfoldable pub excess_faults : Option (List (List ℕ)) → List Column → (text : List ℕ) → (number : ℕ) → (fields : List (List ℕ)) → List FieldFault
excess_faults header columns text number [] = []
excess_faults header columns text number (field ∷ fields) =
    excess_fault header columns text number field ++ excess_faults header columns text (number + 1) fields

-- the number of the column that is at fault
abbrev pub column_of_cause : RowCause → ℕ
column_of_cause cause.BadClerk = 0
column_of_cause (cause.BadField column) = column - 1
column_of_cause _ = 1

-- what the field of a row's column says
abbrev pub said_in : CourtNames → Option DateOrder → Option (List (List ℕ)) → (fields : List (List ℕ)) → (number : ℕ) → Column → Said (List ℕ)
said_in names order header fields number column = field_said names order column (value_at header fields number column)

-- the fault of a column's field, which isn't what the column holds
abbrev pub fault_of_column : Option (List (List ℕ)) → (text : List ℕ) → (fields : List (List ℕ)) → List Column → (number : ℕ) → FieldFault
fault_of_column header text fields columns number =
    fault_at text (column_place header number (column_at columns number)) (Unknown (column_at columns number)) (value_at header fields number (column_at columns number)) [] []

-- the fault of a label by which nothing may be called
abbrev pub label_faults : Option (List (List ℕ)) → (text label : List ℕ) → List FieldFault
label_faults header text label =
    if is_filled label && not (is_label label) then fault_at text (column_place header 0 Label) (Unknown Label) label [] [] ∷ [] else []

-- a plain row, with the one that says what it makes is called, if there is one
abbrev pub with_label : (plain : List ℕ) → (label : Option (List ℕ)) → Written (List (List ℕ)) (List ℕ) (List FieldFault)
with_label plain None = written.Plain plain
with_label plain (Some label) = written.Labelled plain label

-- the row with this text, where the row that the office is asked about says this
abbrev pub taken : CourtNames → Option (List (List ℕ)) → (text : List ℕ) → (fields : List (List ℕ)) → List Column → (plain : List ℕ) → (label : Option (List ℕ)) → Line → Written (List (List ℕ)) (List ℕ) (List FieldFault)
taken names header text fields columns plain label line.Blank = written.Faulty (fault_of_column header text fields columns 1 ∷ [])
taken names header text fields columns plain label (line.Fault cause) = written.Faulty (fault_of_column header text fields columns (column_of_cause cause) ∷ [])
taken names header text fields columns plain label (line.Row row) = if names_known names row.work then with_label plain label else written.Faulty (fault_of_column header text fields columns 1 ∷ [])

-- a row in a file with these headings, of that court, whose fields are these
module _ (names : CourtNames) (order : Option DateOrder) (header : Option (List (List ℕ))) (text : List ℕ) (fields : List (List ℕ)) where
  -- the fields of the plain row in these columns, of which the first has this number
  unfoldable pub plain_in : (number : ℕ) → List Column → List (List ℕ)
  plain_in number [] = []
  plain_in number (column ∷ columns) = clear_text (said_in names order header fields number column) ∷ plain_in (number + 1) columns

  -- the faults of the fields in these columns
  unfoldable pub column_faults : (number : ℕ) → List Column → List FieldFault
  column_faults number [] = []
  column_faults number (column ∷ columns) =
      unclear text (column_place header number column) column (value_at header fields number column) (said_in names order header fields number column) ++ column_faults (number + 1) columns

  -- the row with these plain fields, and the one with its label, if there is no fault
  abbrev pub if_faultless : (clerks : ℕ) → List Column → (plain : List (List ℕ)) → (label : Option (List ℕ)) → List FieldFault → Written (List (List ℕ)) (List ℕ) (List FieldFault)
  if_faultless clerks columns plain label [] =
      taken names header text fields columns (row_text default_writer plain) label (line_read clerks names (row_text default_writer (asked columns plain)))
  if_faultless clerks columns plain label (fault ∷ faults) = written.Faulty (fault ∷ faults)

  -- what a row with these columns is read as, where what it makes is called so: each field says one thing in its column, and no other
  -- field is there
  abbrev pub in_columns : (clerks : ℕ) → (made label : List ℕ) → Option (List Column) → Written (List (List ℕ)) (List ℕ) (List FieldFault)
  in_columns clerks made label None = written.Faulty (fault_at text (column_place header 1 Command) NoCommand (value_at header fields 1 Command) [] [] ∷ [])
  in_columns clerks made label (Some columns) =
      if_faultless clerks columns (plain_in 0 columns) (row_of_label made (plain_in 0 columns) label)
      (column_faults 0 columns ++ excess_faults header (wanted_columns header made columns) text 0 fields ++ label_faults header text label)

  -- what a row is read as: its columns are those of its command word
  abbrev pub row_worded : (clerks : ℕ) → (word label : List ℕ) → Written (List (List ℕ)) (List ℕ) (List FieldFault)
  row_worded clerks word label = in_columns clerks (made_by word) label (columns_of word)

  -- the command word of a row
  abbrev pub row_word : List ℕ
  row_word = folded (value_at header fields 1 Command)

  unfoldable pub row_said : (clerks : ℕ) → Written (List (List ℕ)) (List ℕ) (List FieldFault)
  row_said clerks = row_worded clerks row_word (label_at header (made_by row_word) fields)

-- a line that names columns, with these headings and these faults
abbrev pub header_said : (headings : List (List ℕ)) → List FieldFault → Written (List (List ℕ)) (List ℕ) (List FieldFault)
header_said headings [] = written.Header headings
header_said headings (fault ∷ faults) = written.Faulty (fault ∷ faults)

-- a line that says a row whose judges and room the court has
abbrev pub says_row : CourtNames → Line → Bool
says_row names line.Blank = false
says_row names (line.Fault cause) = false
says_row names (line.Row row) = names_known names row.work

-- a text is a plain row, and the court has its judges and its room
abbrev pub is_row : (clerks : ℕ) → CourtNames → List ℕ → Bool
is_row clerks names text = says_row names (line_read clerks names text)

-- where columns have no headings, a plain row stays as it is
abbrev pub stays : (clerks : ℕ) → CourtNames → Option (List (List ℕ)) → (line : List ℕ) → Bool
stays clerks names None line = is_row clerks names line
stays clerks names (Some headings) line = false

-- what a line that is typed on plain keys is read as
unfoldable pub typed_as : (clerks : ℕ) → CourtNames → Option DateOrder → Option (List (List ℕ)) → (text : List ℕ) → Written (List (List ℕ)) (List ℕ) (List FieldFault)
typed_as clerks names order header text =
    if says_nothing (fields_written text) then written.Nothing
    else if names_columns (map heading_of (fields_written text)) then header_said (map heading_of (fields_written text)) (heading_faults text 0 [] (fields_written text))
    else row_said names order header text (fields_written text) clerks

-- What a line is read as, in a file whose columns have these headings, or none.
unfoldable pub read_as : (clerks : ℕ) → CourtNames → Option DateOrder → Option (List (List ℕ)) → (line : List ℕ) → Written (List (List ℕ)) (List ℕ) (List FieldFault)
read_as clerks names order header line = if stays clerks names header line then written.Plain line else typed_as clerks names order header (typed line)
