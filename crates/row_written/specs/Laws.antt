-- What the definitions come to.
use Rattle.std.specs.Prelude.{◌≡◌, ◌⊎◌, ℕ, nat_eq, true, false, IsSome, List, codes, Option, None, Some}
use Rattle.std.specs.List.{list_any, starts_with}
use Rattle.csv.specs.Writing.{default_writer, row_text}
use Rattle.case_numbers.specs.Words.{case_read}
use Rattle.row_forms.specs.declared.row.Row.{Row}
use Rattle.row_forms.specs.Words.{CourtNames, is_number}
use Rattle.row_forms.specs.declared.line.line.Line.TheVariants as line
use Rattle.row_forms.specs.Line.Words.{line_read}
use Rattle.row_fields.specs.declared.dates.DateOrder.{DateOrder}
use Rattle.row_fields.specs.declared.said.Said.TheVariants.{Clear}
use Rattle.row_fields.specs.Words.{bare, numbers_in}
use Rattle.row_forms.specs.declared.headings.columns.Column.{Column}
use Rattle.row_forms.specs.declared.headings.columns.Column.TheVariants.{Clerk, Case, Deadline, Motion, Period, Grant, Need, Slots}
use Rattle.row_written.specs.declared.rows.Written.TheVariants.{Plain}
use Rattle.row_written.specs.Cases.{with_one}
use Rattle.row_written.specs.Fields.{field_said}
use Rattle.row_written.specs.Headings.{word_at}
use Rattle.row_written.specs.Known.{names_known}
use Rattle.row_written.specs.Rows.{plain_of, read_as}

-- a text is a plain row as the office reads it, whose judges and room the court has
pub record IsPlainRow (clerks : ℕ) (names : CourtNames) (text : List ℕ) (row : Row) : Type 0 where
  pub read : line_read clerks names text ≡ line.Row row
  pub known : names_known names row.work ≡ true

-- a field is the name of a deadline or a motion in place of its number: a rule's code, `last`, or what it is called
abbrev pub IsSubjectName : List ℕ → Type 0
IsSubjectName field = is_number field ≡ false

-- fields are as before, or have the number 1 at a place where what was there is so
abbrev pub PutsOne : (place : ℕ) → (List ℕ → Type 0) → (before after : List (List ℕ)) → Type 0
PutsOne place IsSo before after = (after ≡ before) ⊎ (IsSo (word_at before place) × (after ≡ with_one place before))

-- a text is a row that may have names in place of numbers: a case number in its third field, the name of a deadline or a motion in
-- its fourth, or its fifth; with the number 1 in place of each it is a plain row
pub record IsNamedRow (clerks : ℕ) (names : CourtNames) (text : List ℕ) (row : Row) : Type 0 where
  pub fields : List (List ℕ)
  pub cased : List (List ℕ)
  pub numbered : List (List ℕ)
  pub all_numbered : List (List ℕ)
  pub text_is : text ≡ row_text default_writer fields
  pub case : PutsOne 2 (λ field. IsSome (case_read field)) fields cased
  pub subject : PutsOne 3 IsSubjectName cased numbered
  pub labelled : PutsOne 4 IsSubjectName numbered all_numbered
  pub row_is : IsPlainRow clerks names (row_text default_writer all_numbered) row

-- a text is a plain row, or one with names
abbrev pub IsRow : (clerks : ℕ) → CourtNames → (text : List ℕ) → Row → Type 0
IsRow clerks names text row = IsPlainRow clerks names text row ⊎ IsNamedRow clerks names text row

-- A plain row stays as it is, where columns have no headings.
abbrev pub PlainRowsStay : Type 0
PlainRowsStay = (clerks : ℕ) (names : CourtNames) (order : Option DateOrder) (text : List ℕ) (row : Row) → IsPlainRow clerks names text row → read_as clerks names order None text ≡ Plain text

-- What a line is read as, if it is read as a row, is a plain row, or one with a case number, or a deadline's rule, `last` or what is called
-- so, in place of a number.
abbrev pub RowsArePlain : Type 0
RowsArePlain = (clerks : ℕ) (names : CourtNames) (order : Option DateOrder) (header : Option (List (List ℕ))) (line text : List ℕ) → plain_of (read_as clerks names order header line) ≡ Some text
    → (row : Row) × IsRow clerks names text row

-- fields of that court, with dates in that order
module _ (names : CourtNames) (order : Option DateOrder) where
  -- if the field of a column says a number, then it is that number
  abbrev pub IsItsField : Column → (text number : List ℕ) → Type 0
  IsItsField column text number = field_said names order column text ≡ Clear number → number ≡ text

  pub record AreTheirFields (text number : List ℕ) : Type 0 where
    pub of_clerks : IsItsField Clerk text number
    pub of_cases : IsItsField Case text number
    pub of_deadlines : IsItsField Deadline text number
    pub of_motions : IsItsField Motion text number
    pub of_notice : IsItsField Need text number

  -- what the field of a column says has the numbers of the field, each with the same digits
  abbrev pub HasItsNumbers : Column → (text plain : List ℕ) → Type 0
  HasItsNumbers column text plain = field_said names order column text ≡ Clear plain → numbers_in plain ≡ numbers_in text

  pub record HaveTheirNumbers (text plain : List ℕ) : Type 0 where
    pub slots : HasItsNumbers Slots text plain
    pub entered : list_any (λ b. nat_eq b 47) text ≡ true → HasItsNumbers Period text plain
    pub extended : starts_with nat_eq (bare text) (codes "+") ≡ true → HasItsNumbers Grant text plain

-- A number that is read is its field, digit for digit. (A case may also be read as a case number, a deadline as its
-- rule, a motion as the last, and both by what they are called, which are none.)
abbrev pub NumbersAreTheirFields : Type 0
NumbersAreTheirFields = (names : CourtNames) (order : Option DateOrder) (text number : List ℕ) → is_number number ≡ true → AreTheirFields names order text number

-- A number of slots, a period with slashes and the length of an extension have the numbers of their fields, each with the same
-- digits. (A period that is named by its section has those of the table.)
abbrev pub LengthsKeepTheirNumbers : Type 0
LengthsKeepTheirNumbers = (names : CourtNames) (order : Option DateOrder) (text plain : List ℕ) → HaveTheirNumbers names order text plain
