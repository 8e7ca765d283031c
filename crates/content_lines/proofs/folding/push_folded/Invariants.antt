use Rattle.std.proofs.Common.{◌≡◌, ◌≤◌, ◌++◌, string_bytes}
use Rattle.std.specs.Str.Iter.{chars_rest}
use Rattle.content_lines.specs.Folding.{folded}
use Rattle.content_lines.proofs.folding.push_folded.Given as goal

-- what was added, and what is left with the room that there is, are the whole line as it is folded
abbrev pub invariant-loop-c : goal.invariant-loop-c
invariant-loop-c l = record {
  room : l.room ≤ 75;
  whole : string_bytes l.text ++ folded l.room (chars_rest l.c-iterator) ≡ string_bytes l.fn.text ++ folded 75 l.line;
}
