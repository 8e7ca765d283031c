-- Inputs as people write them, read as plain rows.
use Rattle.std.specs.Prelude.{ℕ, Bool, true, false, ◌-◌, nat_eq, List, [], ◌∷◌, ◌++◌, codes, length, map, take, Option, Some, None, if◌then◌else◌}
use Rattle.std.specs.List.{ends_with, flat_map}
use Rattle.court_file_text.specs.Words.{NamedTextView}
use Rattle.desk_session.specs.Lines.{ends_line}
use Rattle.desk_session.specs.Words.{mark_of, unmarked}
use Rattle.row_forms.specs.Words.{CourtNames}
use Rattle.row_fields.specs.declared.dates.DateOrder.{DateOrder}
use Rattle.row_written.specs.Words.{FieldFault, fault_in}
use Rattle.row_input.specs.declared.reading.FaultyLine.{FaultyLine}
use Rattle.row_input.specs.LineRows.{RowsOfLine}
use Rattle.row_input.specs.Triggers.{rows_of_line}

-- a line that has faults: its number, the line, how long its mark is, and what is wrong with its fields
pub record FaultyText : Type 0 where
  pub number : ℕ
  pub line : List ℕ
  pub mark : ℕ
  pub faults : List FieldFault

abbrev pub faulty_in : FaultyLine → FaultyText
faulty_in line = record { number = line.number; line = line.line.items; mark = line.mark; faults = map fault_in line.faults.items }

-- the headings of the columns after a line that names these, or none
abbrev pub header_after : (header : Option (List (List ℕ))) → (named : Option (List (List ℕ))) → Option (List (List ℕ))
header_after header None = header
header_after header (Some headings) = Some headings

-- a text with an end of its line, and without one
abbrev pub ended : List ℕ → List ℕ
ended text = if ends_with nat_eq text (codes "\n") then text else text ++ codes "\n"

abbrev pub unended : List ℕ → List ℕ
unended text = if ends_with nat_eq text (codes "\n") then take (length text - 1) text else text

-- a plain row after the mark of its line, as a line
abbrev pub row_of : (mark row : List ℕ) → List ℕ
row_of mark row = mark ++ ended row

-- Between two rows of a line: the byte 30, where they are to be kept together; and otherwise a carriage return, which begins no line of a
-- file, and the line's mark.
abbrev pub between_rows : (joined : Bool) → (mark : List ℕ) → List ℕ
between_rows true mark = 30 ∷ []
between_rows false mark = 13 ∷ mark

abbrev pub next_in_place : (joined : Bool) → (mark row : List ℕ) → List ℕ
next_in_place joined mark row = between_rows joined mark ++ unended row

-- what is in the place of a line: its plain rows after its mark; or nothing
abbrev pub in_place : (joined : Bool) → (mark : List ℕ) → (rows : List (List ℕ)) → List ℕ
in_place joined mark [] = []
in_place joined mark (row ∷ rows) = (mark ++ unended row) ++ flat_map (next_in_place joined mark) rows

-- the line of that number with these faults, if there are some
abbrev pub faulty_line : (number : ℕ) → (line mark : List ℕ) → (faults : List FieldFault) → FaultyText
faulty_line number line mark faults = record { number = number; line = line; mark = length mark; faults = faults }

abbrev pub faulty_as : (number : ℕ) → (line mark : List ℕ) → (faults : List FieldFault) → List FaultyText
faulty_as number line mark [] = []
faulty_as number line mark (fault ∷ faults) = faulty_line number line mark (fault ∷ faults) ∷ []

-- lines with their numbers, read for that court after a line that names columns, or after none
module _ (clerks : ℕ) (names : CourtNames) (own : List NamedTextView) (order : Option DateOrder) (marked : Bool) where
  -- what a line comes to
  abbrev pub line_as : Option (List (List ℕ)) → (line : List ℕ) → RowsOfLine
  line_as header line = rows_of_line clerks names own order header (unmarked marked line)

  -- the headings after it, its rows, a line each, what is in its place, and its faults
  abbrev pub header_then : Option (List (List ℕ)) → (line : List ℕ) → Option (List (List ℕ))
  header_then header line = header_after header (line_as header line).header

  abbrev pub lines_as : Option (List (List ℕ)) → (line : List ℕ) → List ℕ
  lines_as header line = flat_map (row_of (mark_of marked line)) (line_as header line).rows

  abbrev pub placed_as : (joined : Bool) → Option (List (List ℕ)) → (line : List ℕ) → List ℕ
  placed_as joined header line = in_place joined (mark_of marked line) (line_as header line).rows

  abbrev pub faults_as : Option (List (List ℕ)) → (number : ℕ) → (line : List ℕ) → List FaultyText
  faults_as header number line = faulty_as number line (mark_of marked line) (line_as header line).faults

  -- the plain rows, a line each
  unfoldable pub rows_of : Option (List (List ℕ)) → List (ℕ × List ℕ) → List ℕ
  rows_of header [] = []
  rows_of header (line ∷ lines) = lines_as header line.1 ++ rows_of (header_then header line.1) lines

  -- the lines that have faults
  unfoldable pub faulty_of : Option (List (List ℕ)) → List (ℕ × List ℕ) → List FaultyText
  faulty_of header [] = []
  faulty_of header (line ∷ lines) = faults_as header line.0 line.1 ++ faulty_of (header_then header line.1) lines

  -- Bytes, of which the first line has begun with these, with plain rows in place of their lines: each line has its end as before,
  -- so a row is on the line that says it.
  unfoldable pub placed_from : (joined : Bool) → Option (List (List ℕ)) → (begun : List ℕ) → List ℕ → List ℕ
  placed_from joined header begun [] = []
  placed_from joined header begun (byte ∷ bytes) =
      if ends_line byte then placed_as joined header begun ++ byte ∷ placed_from joined (header_then header begun) [] bytes
      else placed_from joined header (begun ++ byte ∷ []) bytes
