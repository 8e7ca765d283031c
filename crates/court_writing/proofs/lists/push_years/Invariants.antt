use Rattle.std.proofs.Common.{◌≡◌, ◌++◌, string_bytes}
use Rattle.court_writing.specs.Named.{years_from}
use Rattle.court_writing.proofs.lists.push_years.Given as goal

-- what was added are the lines of the years so far
abbrev pub invariant-loop-place : goal.invariant-loop-place
invariant-loop-place l = string_bytes l.text ≡ string_bytes l.fn.text ++ years_from l.state l.list l.first l.place
