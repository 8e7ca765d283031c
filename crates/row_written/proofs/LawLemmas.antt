-- The laws of lines.
use Rattle.std.proofs.Common.{◌≡◌, ◌∙◌, inl, inr, ℕ, Bool, true, false, List, [], ◌∷◌, ◌++◌, refl, sym, ap}
use Rattle.std.specs.Prelude.{IsSome, Option, Some, None, is_some, map, not, if◌then◌else◌}
use Rattle.csv.specs.Writing.{default_writer, row_text}
use Rattle.case_numbers.specs.Words.{NameView, case_read}
use Rattle.row_forms.specs.declared.row.Row.{Row}
use Rattle.row_forms.specs.Words.{CourtNames, is_number}
use Rattle.row_forms.specs.declared.line.line.Line.{Line}
use Rattle.row_forms.specs.declared.line.line.Line.TheVariants as line
use Rattle.row_forms.specs.Line.Words.{line_read}
use Rattle.row_fields.specs.declared.dates.DateOrder.{DateOrder}
use Rattle.row_fields.specs.Words.{typed}
use Rattle.row_forms.specs.declared.headings.columns.Column.{Column}
use Rattle.row_forms.specs.declared.headings.columns.Column.TheVariants.{Deadline, Motion, Number}
use Rattle.row_written.specs.declared.rows.Written.{Written}
use Rattle.row_written.specs.declared.rows.Written.TheVariants.{Nothing, Plain, Faulty}
use Rattle.row_written.specs.Cases.{asked, is_case, is_subject_name, name_in, names_subject, with_case, with_one, with_subject}
use Rattle.row_forms.specs.Headings.Words.{column_at, columns_of}
use Rattle.row_written.specs.Fault.{FieldFault}
use Rattle.row_written.specs.Headings.{heading_faults, heading_of, names_columns, word_at}
use Rattle.row_written.specs.Known.{names_known}
use Rattle.row_written.specs.Labels.{label_at, row_of_label, made_by, wanted_columns}
use Rattle.row_written.specs.Laws.{IsPlainRow, IsRow, IsSubjectName, PlainRowsStay, PutsOne, RowsArePlain}
use Rattle.row_written.specs.Rows.{column_faults, excess_faults, fault_of_column, fields_written, header_said, if_faultless, in_columns, label_faults, plain_in, plain_of, read_as, row_said, row_word, says_nothing, says_row, stays, taken, typed_as, with_label}

-- a plain row stays
pub plain_rows_stay_lem : PlainRowsStay
unfolding read_as
plain_rows_stay_lem clerks names order text row is = rw (is.read, is.known) refl

-- a line that says a row
row_says : (clerks : ℕ) (names : CourtNames) (text : List ℕ) (said : Line) → line_read clerks names text ≡ said → says_row names said ≡ true → (row : Row) × IsRow clerks names text row
row_says clerks names text line.Blank is says = cc says
row_says clerks names text (line.Fault cause) is says = cc says
row_says clerks names text (line.Row row) is says = (row, inl (record { read = is; known = says }))

-- one of two readings
abbrev either : Bool → Written (List (List ℕ)) (List ℕ) (List FieldFault) → Written (List (List ℕ)) (List ℕ) (List FieldFault) → Written (List (List ℕ)) (List ℕ) (List FieldFault)
either so a b = if so then a else b

same_some : (a b : List ℕ) → Some a ≡ Some b → a ≡ b
same_some a b e = cc e

labelled_plain : (label : Option (List ℕ)) (a b : List ℕ) → plain_of (with_label a label) ≡ Some b → a ≡ b
labelled_plain None a b e = same_some a b e
labelled_plain (Some label) a b e = same_some a b e

-- the number 1 is put in place of what is so
puts_one : (place : ℕ) (IsSo : List ℕ → Type 0) (fields : List (List ℕ)) (so : Bool) → (so ≡ true → IsSo (word_at fields place)) → PutsOne place IsSo fields (if so then with_one place fields else fields)
puts_one place IsSo fields true is = inr (is refl, refl)
puts_one place IsSo fields false is = inl refl

-- a case number that is looked for, and found
read_there : (looked : Bool) (read : Option NameView) → is_some (if looked then read else None) ≡ true → IsSome read
read_there true (Some name) found = search
read_there true None found = cc found
read_there false read found = cc found

-- a name of a deadline or a motion
not_so : (so : Bool) → not so ≡ true → so ≡ false
not_so true is = cc is
not_so false is = refl

subject_there : (column : Column) (field : List ℕ) → is_subject_name column field ≡ true → IsSubjectName field
subject_there Deadline field so = not_so (is_number field) so
subject_there Motion field so = not_so (is_number field) so
subject_there Number field so = not_so (is_number field) so
subject_there _ field so = cc so

-- the text of a row that is taken
module _ (clerks : ℕ) (names : CourtNames) (text : List ℕ) where
  -- it is one where the row that the office is asked about is a plain row
  asked_is : (columns : List Column) (plain : List (List ℕ)) (row : Row) → text ≡ row_text default_writer plain → IsPlainRow clerks names (row_text default_writer (asked columns plain)) row → IsRow clerks names text row
  asked_is columns plain row is row_is =
      let cased : List (List ℕ) = with_case columns plain in
      let numbered : List (List ℕ) = with_subject 3 columns cased in
      inr (record {
        fields = plain;
        cased = cased;
        numbered = numbered;
        all_numbered = asked columns plain;
        text_is = is;
        case = puts_one 2 (λ field. IsSome (case_read field)) plain (is_some (name_in columns plain)) (read_there (is_case (column_at columns 2)) (case_read (word_at plain 2)));
        subject = puts_one 3 IsSubjectName cased (names_subject 3 columns cased) (subject_there (column_at columns 3) (word_at cased 3));
        labelled = puts_one 4 IsSubjectName numbered (names_subject 4 columns numbered) (subject_there (column_at columns 4) (word_at numbered 4));
        row_is = row_is;
      })

  taken_plain : (header : Option (List (List ℕ))) (keyed : List ℕ) (fields : List (List ℕ)) (columns : List Column) (plain : List (List ℕ)) (label : Option (List ℕ)) (said : Line) → line_read clerks names (row_text default_writer (asked columns plain)) ≡ said
      → plain_of (taken names header keyed fields columns (row_text default_writer plain) label said) ≡ Some text → (row : Row) × IsRow clerks names text row
  taken_plain header keyed fields columns plain label line.Blank is took = cc took
  taken_plain header keyed fields columns plain label (line.Fault cause) is took = cc took
  taken_plain header keyed fields columns plain label (line.Row row) is took = by (names_known names row.work) refl took
    where
      by : (known : Bool) → names_known names row.work ≡ known → plain_of (either known (with_label (row_text default_writer plain) label) (Faulty (fault_of_column header keyed fields columns 1 ∷ []))) ≡ Some text → (row : Row) × IsRow clerks names text row
      by true e took = (row, asked_is columns plain row (sym (labelled_plain label (row_text default_writer plain) text took)) (record { read = is; known = e }))
      by false e took = cc took

  faultless_plain : (order : Option DateOrder) (header : Option (List (List ℕ))) (keyed : List ℕ) (fields : List (List ℕ)) (columns : List Column) (plain : List (List ℕ)) (label : Option (List ℕ)) (faults : List FieldFault) → plain_of (if_faultless names order header keyed fields clerks columns plain label faults) ≡ Some text
      → (row : Row) × IsRow clerks names text row
  faultless_plain order header keyed fields columns plain label [] took = taken_plain header keyed fields columns plain label (line_read clerks names (row_text default_writer (asked columns plain))) refl took
  faultless_plain order header keyed fields columns plain label (fault ∷ faults) took = cc took

  columns_plain : (order : Option DateOrder) (header : Option (List (List ℕ))) (keyed : List ℕ) (fields : List (List ℕ)) (made label : List ℕ) (columns : Option (List Column)) → plain_of (in_columns names order header keyed fields clerks made label columns) ≡ Some text
      → (row : Row) × IsRow clerks names text row
  columns_plain order header keyed fields made label None took = cc took
  columns_plain order header keyed fields made label (Some columns) took =
      faultless_plain order header keyed fields columns (plain_in names order header keyed fields 0 columns) (row_of_label made (plain_in names order header keyed fields 0 columns) label)
      (column_faults names order header keyed fields 0 columns ++ excess_faults header (wanted_columns header made columns) keyed 0 fields ++ label_faults header keyed label) took

  row_plain : (order : Option DateOrder) (header : Option (List (List ℕ))) (keyed : List ℕ) (fields : List (List ℕ)) → plain_of (row_said names order header keyed fields clerks) ≡ Some text → (row : Row) × IsRow clerks names text row
  unfolding row_said
  row_plain order header keyed fields took =
      let word = row_word names order header keyed fields in
      columns_plain order header keyed fields (made_by word) (label_at header (made_by word) fields) (columns_of word) took

  header_plain : (headings : List (List ℕ)) (faults : List FieldFault) → plain_of (header_said headings faults) ≡ Some text → (row : Row) × IsRow clerks names text row
  header_plain headings [] took = cc took
  header_plain headings (fault ∷ faults) took = cc took

  typed_plain : (order : Option DateOrder) (header : Option (List (List ℕ))) (keyed : List ℕ) → plain_of (typed_as clerks names order header keyed) ≡ Some text → (row : Row) × IsRow clerks names text row
  unfolding typed_as
  typed_plain order header keyed took = by (says_nothing fields) (names_columns (map heading_of fields)) took
    where
      fields : List (List ℕ)
      fields = fields_written keyed

      by : (nothing heads : Bool) → plain_of (either nothing Nothing (either heads (header_said (map heading_of fields) (heading_faults keyed 0 [] fields)) (row_said names order header keyed fields clerks))) ≡ Some text
          → (row : Row) × IsRow clerks names text row
      by true heads took = cc took
      by false true took = header_plain (map heading_of fields) (heading_faults keyed 0 [] fields) took
      by false false took = row_plain order header keyed fields took

  stays_plain : (header : Option (List (List ℕ))) → stays clerks names header text ≡ true → (row : Row) × IsRow clerks names text row
  stays_plain None e = row_says clerks names text (line_read clerks names text) refl e
  stays_plain (Some headings) e = cc e

pub rows_are_plain_lem : RowsArePlain
unfolding read_as
rows_are_plain_lem clerks names order header line text took = by (stays clerks names header line) refl took
  where
    by : (so : Bool) → stays clerks names header line ≡ so → plain_of (either so (Plain line) (typed_as clerks names order header (typed line))) ≡ Some text → (row : Row) × IsRow clerks names text row
    by true e took = stays_plain clerks names text header (ap (stays clerks names header) (sym (same_some line text took)) ∙ e)
    by false e took = typed_plain clerks names text order header (typed line) took
