use Rattle.std.proofs.Common.{◌≡◌, ◌++◌, string_bytes}
use Rattle.court_writing.specs.Named.{lines_from}
use Rattle.court_writing.proofs.lines.push_lines.Given as goal

-- what was added are the lines of the days so far
abbrev pub invariant-loop-place : goal.invariant-loop-place
invariant-loop-place l = string_bytes l.text ≡ string_bytes l.fn.text ++ lines_from l.state l.line l.first l.place
