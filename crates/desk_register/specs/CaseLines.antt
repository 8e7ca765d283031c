-- Lines in which a case has its number as the court writes it, and the plain lines that stand for them.
use Rattle.std.specs.Prelude.{◌≡◌, ◌+◌, ◌&&◌, ◌||◌, ℕ, Bool, false, is_none, List, ◌∷◌, ◌++◌, Option, Some, None, codes, drop, length, nat_eq, nat_lt, take, if◌then◌else◌}
use Rattle.std.specs.Fmt.{decimal}
use Rattle.std.specs.Str.{bytes_eq}
use Rattle.csv.specs.Writing.{default_writer, row_text}
use Rattle.case_numbers.specs.Words.{CasesView, NameView, case_read, fresh, number_of}
use Rattle.row_forms.specs.declared.fault.RowCause.{RowCause}
use Rattle.row_forms.specs.declared.fault.RowCause.TheVariants.{BadField}
use Rattle.row_forms.specs.declared.row.Row.{Row}
use Rattle.row_forms.specs.Words.{CourtNames, column}
use Rattle.row_forms.specs.declared.line.line.Line.{Line}
use Rattle.row_forms.specs.declared.line.line.Line.TheVariants as line
use Rattle.row_forms.specs.Line.Words.{fields_read, line_read}
use Rattle.desk_register.specs.declared.case_line.CaseLine.{CaseLine}
use Rattle.desk_register.specs.Entries.{most_clerks}

-- how a line is read: as this plain text, and with this name, where it is new
pub record Reading : Type 0 where
  pub text : List ℕ
  pub name : Option NameView

abbrev pub as_it_is : (line : List ℕ) → Reading
as_it_is line = record { text = line; name = None }

-- the fields with this number at a place, counted from 0
abbrev pub with_number : (place : ℕ) → (fields : List (List ℕ)) → (number : ℕ) → List (List ℕ)
with_number place fields number = take place fields ++ decimal number ∷ drop (place + 1) fields

-- the fields with the number of the motion that suspends a deadline, in the fifth of them
abbrev pub with_suspender : (fields : List (List ℕ)) → (motion : ℕ) → List (List ℕ)
with_suspender fields motion = take 4 fields ++ (codes "suspended:" ++ decimal motion) ∷ drop 5 fields

-- as the row with this number
abbrev pub numbered : (fields : List (List ℕ)) → (number : ℕ) → Option NameView → Reading
numbered fields number name = record { text = row_text default_writer (with_number 2 fields number); name = name }

-- a name that no case has gets this number, if there is one
abbrev pub newly : (line : List ℕ) → (fields : List (List ℕ)) → NameView → Option ℕ → Reading
newly line fields name None = as_it_is line
newly line fields name (Some number) = numbered fields number (Some name)

-- the number that a row gives to a name that no case has: one that opens a case gives it the least free number
abbrev pub fresh_for : CasesView → (fields : List (List ℕ)) → Option ℕ
fresh_for cases fields = if bytes_eq (column fields 2) (codes "open") then fresh cases else None

-- as the row of the case with that name
abbrev pub named : CasesView → (line : List ℕ) → (fields : List (List ℕ)) → NameView → Option ℕ → Reading
named cases line fields name (Some number) = numbered fields number None
named cases line fields name None = newly line fields name (fresh_for cases fields)

abbrev pub named_if : CasesView → (line : List ℕ) → (fields : List (List ℕ)) → Option NameView → Reading
named_if cases line fields None = as_it_is line
named_if cases line fields (Some name) = named cases line fields name (number_of cases.named name.key)

-- how many bytes a field has at most that names a case; a longer one names none
abbrev pub most_name : ℕ
most_name = 64

-- the case number in the third field, which is a judge's name in a row that asks for a calendar
abbrev pub case_in : (fields : List (List ℕ)) → Option NameView
case_in fields = if bytes_eq (column fields 2) (codes "calendar") || nat_lt most_name (length (column fields 3)) then None else case_read (column fields 3)

-- whether the field of that number isn't what it should be
abbrev pub is_field : (number : ℕ) → RowCause → Bool
is_field number (BadField column) = nat_eq column number
is_field number cause = false

abbrev pub lacks_field : (number : ℕ) → Line → Bool
lacks_field number line.Blank = false
lacks_field number (line.Fault cause) = is_field number cause
lacks_field number (line.Row row) = false

-- how a line is read after rows that opened these cases
unfoldable pub reading_of : CourtNames → CasesView → (line : List ℕ) → Reading
reading_of names cases line = if lacks_field 3 (line_read most_clerks names line) then named_if cases line (fields_read line) (case_in (fields_read line)) else as_it_is line

-- a row opens a case, and each number has one
abbrev pub finds_no_number : CasesView → (fields : List (List ℕ)) → Bool
finds_no_number cases fields = bytes_eq (column fields 2) (codes "open") && is_none (fresh cases)

abbrev pub lacks_number : CasesView → (fields : List (List ℕ)) → Option NameView → Bool
lacks_number cases fields None = false
lacks_number cases fields (Some name) = is_none (number_of cases.named name.key) && finds_no_number cases fields

-- a line opens a case by a name that no case has, after rows that opened as many cases as a docket holds
unfoldable pub opens_too_many : CourtNames → CasesView → (line : List ℕ) → Bool
opens_too_many names cases line = lacks_field 3 (line_read most_clerks names line) && lacks_number cases (fields_read line) (case_in (fields_read line))

-- how a line is read, where this plain line stands for it
abbrev pub read_as : (line : List ℕ) → Option CaseLine → Reading
read_as line None = as_it_is line
read_as line (Some c) = record { text = c.text.items; name = c.name }

-- a line is read: this is what its plain line says and its new name, and where it says a row, or lacks a field, these are its fields
pub record IsRead (names : CourtNames) (cases : CasesView) (bytes : List ℕ) (fields : List (List ℕ)) (read : Line × Option NameView) : Type 0 where
  pub said : read.0 ≡ line_read most_clerks names (reading_of names cases bytes).text
  pub name : read.1 ≡ (reading_of names cases bytes).name
  pub fields_are : (row : Row) → read.0 ≡ line.Row row → fields ≡ fields_read (reading_of names cases bytes).text
  pub lacking_are : (column : ℕ) → read.0 ≡ line.Fault (BadField column) → fields ≡ fields_read (reading_of names cases bytes).text
