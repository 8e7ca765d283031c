use Rattle.std.proofs.Common.{◌≡◌, ◌++◌, length}
use Rattle.desk_program.specs.Shown.{shown}
use Rattle.desk_program.proofs.shown.push_shown.Given as goal

-- the bytes so far, and what is shown of those that are left, are all of it
abbrev pub invariant-loop-first : goal.invariant-loop-first
invariant-loop-first l = l.text.items ++ shown l.ends l.rest ≡ l.fn.text.items ++ shown l.ends l.bytes

abbrev pub decreases-loop-first : goal.decreases-loop-first
decreases-loop-first l = length l.rest
