use Rattle.std.proofs.Common.{◌≡◌, ◌+◌, ◌≤◌, false, drop}
use Rattle.row_fields.specs.Line.{count_outside}
use Rattle.row_fields.proofs.line.count_outside.Given as goal

abbrev pub invariant-loop-byte : goal.invariant-loop-byte
invariant-loop-byte l = (l.count + count_outside l.mark l.quoted (drop l.byte-index l.line) ≡ count_outside l.mark false l.line) × (l.count ≤ l.byte-index)
