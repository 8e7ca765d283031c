-- Rows that start several periods from one event: each is read as a row of `start` for each period of its set, with a label.
use Rattle.std.specs.Prelude.{ℕ, ◌&&◌, not, nat_eq, nat_le, Bool, List, [], ◌∷◌, ◌++◌, codes, length, unwrap_or, Option, Some, None, if◌then◌else◌}
use Rattle.std.specs.List.{starts_with}
use Rattle.std.specs.Option.{option_or}
use Rattle.std.specs.Str.{bytes_eq}
use Rattle.court_file_text.specs.Words.{NamedTextView, text_named}
use Rattle.row_forms.specs.Words.{CourtNames, column}
use Rattle.row_fields.specs.declared.dates.DateOrder.{DateOrder}
use Rattle.row_fields.specs.Words.{fields_in, folded, typed}
use Rattle.row_written.specs.declared.rows.Written.{Written}
use Rattle.row_written.specs.Words.{FieldFault, fields_written, is_label, read_as, row_called}
use Rattle.row_input.specs.LineRows.{RowsOfLine, no_rows, with_row}

-- The sets that come with the program: what entry of judgment starts, a complaint, service of it, and removal.
unfoldable pub set_of : (word : List ℕ) → Option (List ℕ)
set_of word =
    if bytes_eq word (codes "judgment") then Some (codes "50b, 52b, 59b, 59e, 54d2B, frap4a1A, 62a")
    else if bytes_eq word (codes "complaint") then Some (codes "4m")
    else if bytes_eq word (codes "served") then Some (codes "12a1Ai")
    else if bytes_eq word (codes "removed") then Some (codes "81c2C, 1447c")
    else None

-- the text of a set, commas between its periods: that of the court's file, or else that of the program, or else the field itself
abbrev pub set_meant : (own : List NamedTextView) → (field : List ℕ) → List ℕ
set_meant own field = unwrap_or (option_or (text_named own field) (set_of (folded field))) field

-- the periods of a set
abbrev pub periods_meant : (own : List NamedTextView) → (field : List ℕ) → List (List ℕ)
periods_meant own field = fields_in 44 (set_meant own field)

-- a line with these fields is passed over: the first begins with `#`
abbrev pub is_passed : (fields : List (List ℕ)) → Bool
is_passed fields = starts_with nat_eq (column fields 1) (codes "#")

-- fields have the command word `trigger`, and they are no more than those of a row of `start`
abbrev pub has_word : (fields : List (List ℕ)) → Bool
has_word fields = bytes_eq (folded (column fields 2)) (codes "trigger") && nat_le (length fields) 8

-- fields say a trigger
abbrev pub is_trigger : (fields : List (List ℕ)) → Bool
is_trigger fields = has_word fields && not (is_passed fields)

-- the fields of the row of `start` for a period, with the same case, event and service
abbrev pub start_fields : (fields : List (List ℕ)) → (period : List ℕ) → List (List ℕ)
start_fields fields period =
    column fields 1 ∷ codes "start" ∷ column fields 3 ∷ period ∷ column fields 5 ∷ column fields 6 ∷ column fields 7 ∷ column fields 8 ∷ []

-- what the deadlines of a set are called before their periods: by the set's name, or `trigger` where periods are listed in its place
abbrev pub known_word : (word : List ℕ) → (text : Option (List ℕ)) → List ℕ
known_word word (Some text) = word
known_word word None = codes "trigger"

abbrev pub own_word : (field : List ℕ) → (text : Option (List ℕ)) → List ℕ
own_word field (Some text) = field
own_word field None = known_word (folded field) (set_of (folded field))

abbrev pub set_word : (own : List NamedTextView) → (field : List ℕ) → List ℕ
set_word own field = own_word field (text_named own field)

-- a text, where something may be called so
abbrev pub label_if : (text : List ℕ) → List ℕ
label_if text = if is_label text then text else []

-- what the deadline of a period is called: `judgment: 59e`
abbrev pub label_for : (own : List NamedTextView) → (field period : List ℕ) → List ℕ
label_for own field period = label_if (set_word own field ++ codes ": " ++ period)

-- rows for that court, in a file with these headings, that has these sets of its own
module _ (clerks : ℕ) (names : CourtNames) (own : List NamedTextView) (order : Option DateOrder) (header : Option (List (List ℕ))) where
  -- What the row of a period is read as. Its fields are those of the trigger, in whose text their faults are shown.
  abbrev pub period_row : (text : List ℕ) → (fields : List (List ℕ)) → (period : List ℕ) → Written (List (List ℕ)) (List ℕ) (List FieldFault)
  period_row text fields period = row_called clerks names order header text (start_fields fields period) (label_for own (column fields 4) period)

  -- what a line comes to, after what it came to before, with the rows of these periods
  unfoldable pub with_periods : (text : List ℕ) → (fields : List (List ℕ)) → RowsOfLine → (periods : List (List ℕ)) → RowsOfLine
  with_periods text fields said [] = said
  with_periods text fields said (period ∷ periods) = with_periods text fields (with_row said (period_row text fields period)) periods

  -- what a line without its mark comes to, which has this text and these fields as it is typed on plain keys: what its rows are read as
  abbrev pub rows_typed : (line text : List ℕ) → (fields : List (List ℕ)) → RowsOfLine
  rows_typed line text fields =
      if is_trigger fields then with_periods text fields no_rows (periods_meant own (column fields 4))
      else with_row no_rows (read_as clerks names order header line)

  unfoldable pub rows_of_line : (line : List ℕ) → RowsOfLine
  rows_of_line line = rows_typed line (typed line) (fields_written (typed line))
