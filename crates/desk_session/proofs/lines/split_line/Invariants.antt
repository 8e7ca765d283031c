use Rattle.std.proofs.Common.{take}
use Rattle.desk_session.specs.Lines.{HasNoEnd}
use Rattle.desk_session.proofs.lines.split_line.Given as goal

-- no line has ended so far
abbrev pub invariant-loop-place : goal.invariant-loop-place
invariant-loop-place l = HasNoEnd (take l.place l.bytes)
