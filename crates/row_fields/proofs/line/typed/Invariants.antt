use Rattle.std.proofs.Common.{◌≡◌, ◌++◌, drop}
use Rattle.std.specs.Prelude.{string_bytes}
use Rattle.row_fields.specs.Line.{typed, typed_after}
use Rattle.row_fields.proofs.line.typed.Given as goal

abbrev pub invariant-loop-i : goal.invariant-loop-i
invariant-loop-i l = string_bytes l.text ++ typed_after l.more (drop l.i l.line) ≡ typed l.line
