use Rattle.std.proofs.Common.{◌≡◌, ◌+◌, drop}
use Rattle.row_fields.specs.Line.{place_after, place_in}
use Rattle.row_fields.proofs.line.place_in.Given as goal

abbrev pub invariant-loop-i : goal.invariant-loop-i
invariant-loop-i l = l.i + place_after l.mark l.left l.quoted (drop l.i l.bytes) ≡ place_in l.mark l.number l.bytes
