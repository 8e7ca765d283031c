use Rattle.std.proofs.Common.{◌≡◌, ◌++◌, length}
use Rattle.std.specs.List.{flat_map}
use Rattle.page_markup.specs.Escaping.{escaped_byte}
use Rattle.page_markup.proofs.escaping.push_escaped_bytes.Given as goal

-- what was added, and what is left to add, are the whole text, escaped
abbrev pub invariant-loop-rest : goal.invariant-loop-rest
invariant-loop-rest l = l.bytes.items ++ flat_map escaped_byte l.rest ≡ l.fn.bytes.items ++ flat_map escaped_byte l.text

abbrev pub decreases-loop-rest : goal.decreases-loop-rest
decreases-loop-rest l = length l.rest
