-- What a line says, by the records that its reader has.
use Rattle.std.proofs.Common.{◌≡◌, ◌∙◌, ℕ, List, [], ◌∷◌, Result, Ok, Err, sym, ap}
use Rattle.csv.specs.Reading.{default_config, records, strip_bom}
use Rattle.row_forms.specs.declared.fault.RowCause.{RowCause}
use Rattle.row_forms.specs.declared.line.line.Line.TheVariants as line
use Rattle.row_forms.specs.declared.row.Row.{Row}
use Rattle.row_forms.specs.Words.{CourtNames, row_of}
use Rattle.row_forms.specs.Line.Line.{fields_read, first_fields, first_line, line_read, line_spelling}

module _ (clerks : ℕ) (names : CourtNames) (bytes : List ℕ) where
  -- there is no record
  pub says_nothing : records default_config (strip_bom bytes) ≡ [] → line.Blank ≡ line_read clerks names bytes
  unfolding line_read
  says_nothing none = sym (ap (first_line clerks names) none)

  -- there is one, with these fields
  pub says_first : (fields : List (List ℕ)) (more : List (List (List ℕ))) (spelled : Result Row RowCause) → records default_config (strip_bom bytes) ≡ fields ∷ more → row_of clerks names fields ≡ spelled
      → line_spelling spelled ≡ line_read clerks names bytes
  unfolding line_read
  says_first fields more spelled there is = sym (ap (first_line clerks names) there ∙ ap line_spelling is)

  pub has_fields : (fields : List (List ℕ)) (more : List (List (List ℕ))) → records default_config (strip_bom bytes) ≡ fields ∷ more → fields ≡ fields_read bytes
  unfolding fields_read
  has_fields fields more there = sym (ap first_fields there)

  -- what the fields of a line spell that says a row
  pub says_row : (row : Row) → line_read clerks names bytes ≡ line.Row row → row_of clerks names (fields_read bytes) ≡ Ok row
  unfolding line_read fields_read
  says_row row said = by (records default_config (strip_bom bytes)) said
    where
      spells : (spelled : Result Row RowCause) → line_spelling spelled ≡ line.Row row → spelled ≡ Ok row
      spells (Ok r) e = cc e
      spells (Err cause) e = cc e

      by : (found : List (List (List ℕ))) → first_line clerks names found ≡ line.Row row → row_of clerks names (first_fields found) ≡ Ok row
      by [] e = cc e
      by (fields ∷ more) e = spells (row_of clerks names fields) e
