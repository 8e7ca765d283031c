use Rattle.std.proofs.Common.{◌≡◌, ◌++◌, drop}
use Rattle.csv.specs.Records.{fields_of}
use Rattle.csv.specs.Writing.{default_writer, fields_text, row_body}
use Rattle.row_forms.proofs.line.row_text.push_fields.Given as goal

abbrev pub invariant-loop-i : goal.invariant-loop-i
invariant-loop-i l = l.text.items ++ fields_text default_writer (drop l.i (fields_of l.fields)) ≡ l.fn.text.items ++ row_body default_writer (fields_of l.fields)
