use Rattle.std.proofs.Common.{◌≡◌, ◌++◌, drop}
use Rattle.std.specs.Prelude.{string_bytes}
use Rattle.row_fields.specs.Letters.{is_other, folded, stripped}
use Rattle.row_fields.proofs.letters.folded.Given as goal

-- what stays so far, and what stays of what is left
abbrev pub invariant-loop-byte : goal.invariant-loop-byte
invariant-loop-byte l = string_bytes l.word ++ stripped is_other l.last l.gap (drop l.byte-index l.bytes) ≡ folded l.bytes
