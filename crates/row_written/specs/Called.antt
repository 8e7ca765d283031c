-- Rows by their fields, of which what they make is called something that no field says.
use Rattle.std.specs.Prelude.{ℕ, List, Option, if◌then◌else◌}
use Rattle.csv.specs.Writing.{default_writer, row_text}
use Rattle.row_forms.specs.Words.{CourtNames}
use Rattle.row_fields.specs.declared.dates.DateOrder.{DateOrder}
use Rattle.row_written.specs.declared.rows.Written.{Written}
use Rattle.row_written.specs.Fault.{FieldFault}
use Rattle.row_written.specs.Labels.{made_by, row_of_label}
use Rattle.row_written.specs.Rows.{row_word, row_worded, stays, with_label}

-- What a row with these fields is read as, where what it makes is called so: one that is a plain row stays. Its faults are shown in a
-- text that has each field at the same place.
unfoldable pub row_called : (clerks : ℕ) → CourtNames → Option DateOrder → Option (List (List ℕ)) → (text : List ℕ) → (fields : List (List ℕ)) → (label : List ℕ) → Written (List (List ℕ)) (List ℕ) (List FieldFault)
row_called clerks names order header text fields label =
    if stays clerks names header (row_text default_writer fields) then with_label (row_text default_writer fields) (row_of_label (made_by (row_word names order header text fields)) fields label)
    else row_worded names order header text fields clerks (row_word names order header text fields) label
