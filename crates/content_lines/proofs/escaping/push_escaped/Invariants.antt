use Rattle.std.proofs.Common.{◌≡◌, ◌++◌, string_bytes}
use Rattle.std.specs.Str.Iter.{chars_rest}
use Rattle.content_lines.specs.Escaping.{escaped}
use Rattle.content_lines.proofs.escaping.push_escaped.Given as goal

-- what was added, and what is left, are the whole value as it is escaped
abbrev pub invariant-loop-c : goal.invariant-loop-c
invariant-loop-c l = string_bytes l.line ++ escaped (chars_rest l.c-iterator) ≡ string_bytes l.fn.line ++ escaped l.value
