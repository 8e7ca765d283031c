use Rattle.std.proofs.Common.{◌≡◌}
use Rattle.row_forms.specs.CourtNames.{names_of}
use Rattle.row_forms.specs.Records.{TakesAnyRow, records_left}
use Rattle.row_forms.specs.Rows.{rows_read_from}
use Rattle.row_forms.proofs.RowsLemmas.{behind_rows}
use Rattle.row_forms.proofs.records.take_rows.Given as goal

-- the rows so far, and those of the records that are left, are all the rows
abbrev pub invariant-loop-number : goal.invariant-loop-number
invariant-loop-number l = record {
  able : TakesAnyRow l.reader;
  so_far : behind_rows l.rows.items (rows_read_from l.clerks (names_of l.court) l.number (records_left l.reader)) ≡ rows_read_from l.clerks (names_of l.court) 1 (records_left l.fn.reader);
}
