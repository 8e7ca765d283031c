use Rattle.std.proofs.Common.{◌≡◌, drop}
use Rattle.std.specs.Prelude.{string_bytes}
use Rattle.csv.specs.Records.{fields_of}
use Rattle.row_fields.specs.Line.{fields_after, fields_in}
use Rattle.row_fields.proofs.line.cut_line.Given as goal

abbrev pub invariant-loop-byte : goal.invariant-loop-byte
invariant-loop-byte l = fields_after l.mark l.quoted (fields_of l.fields) (string_bytes l.field) (drop l.byte-index l.bytes) ≡ fields_in l.mark l.bytes
