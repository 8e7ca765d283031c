use Rattle.std.proofs.Common.{◌≡◌, ◌++◌, string_bytes}
use Rattle.std.specs.List.{flat_map}
use Rattle.std.specs.Str.Iter.{chars_rest}
use Rattle.content_lines.specs.Times.{undashed}
use Rattle.content_lines.proofs.times.push_undashed.Given as goal

-- what was added, and what is left without its dashes, are the whole date without them
abbrev pub invariant-loop-c : goal.invariant-loop-c
invariant-loop-c l = string_bytes l.text ++ flat_map undashed (chars_rest l.c-iterator) ≡ string_bytes l.fn.text ++ flat_map undashed l.date
