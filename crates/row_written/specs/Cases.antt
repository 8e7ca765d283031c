-- Names in place of numbers, in the fields of rows: case numbers as courts write them, deadlines by their rule, the newest motion, and
-- what deadlines and motions are called. The office reads none, so it is asked about the row with the number 1 in place of each.
use Rattle.std.specs.Prelude.{ℕ, ◌+◌, Bool, true, false, List, ◌∷◌, ◌++◌, codes, drop, is_some, not, take, Option, None, if◌then◌else◌}
use Rattle.case_numbers.specs.Words.{NameView, case_read}
use Rattle.row_forms.specs.Words.{is_number}
use Rattle.row_forms.specs.declared.headings.columns.Column.{Column}
use Rattle.row_forms.specs.declared.headings.columns.Column.TheVariants.{Case, Deadline, Motion, Number}
use Rattle.row_forms.specs.Headings.Words.{column_at}
use Rattle.row_written.specs.Headings.{word_at}

-- the column of a case
abbrev pub is_case : Column → Bool
is_case Case = true
is_case _ = false

-- the case number in a row with these columns: in the third field, where that is the case's
abbrev pub name_in : List Column → (fields : List (List ℕ)) → Option NameView
name_in columns fields = if is_case (column_at columns 2) then case_read (word_at fields 2) else None

-- a field of this column is a name in place of a number: of a deadline its rule's code, of a motion `last`, and of both what they are called
abbrev pub is_subject_name : Column → List ℕ → Bool
is_subject_name Deadline field = not (is_number field)
is_subject_name Motion field = not (is_number field)
is_subject_name Number field = not (is_number field)
is_subject_name _ field = false

-- a row with these columns names a deadline or a motion so, in the field at a place, counted from 0
abbrev pub names_subject : (place : ℕ) → List Column → (fields : List (List ℕ)) → Bool
names_subject place columns fields = is_subject_name (column_at columns place) (word_at fields place)

-- the fields with the number 1 at a place, counted from 0
abbrev pub with_one : (place : ℕ) → (fields : List (List ℕ)) → List (List ℕ)
with_one place fields = take place fields ++ codes "1" ∷ drop (place + 1) fields

-- the fields with the number 1 in place of a case number
abbrev pub with_case : List Column → (fields : List (List ℕ)) → List (List ℕ)
with_case columns fields = if is_some (name_in columns fields) then with_one 2 fields else fields

-- and in place of the name of a deadline or a motion at a place
abbrev pub with_subject : (place : ℕ) → List Column → (fields : List (List ℕ)) → List (List ℕ)
with_subject place columns fields = if names_subject place columns fields then with_one place fields else fields

-- the fields of the row that the office is asked about: a deadline or a motion is named in the fourth field, and in a row that says what
-- it is called in the fifth
abbrev pub asked : List Column → (fields : List (List ℕ)) → List (List ℕ)
asked columns fields = with_subject 4 columns (with_subject 3 columns (with_case columns fields))
