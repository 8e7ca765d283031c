use Rattle.std.proofs.Common.{◌≤◌, ◌-◌, length}
use Rattle.court_clock.proofs.clock.stretch.stretch_at.Given as goal

-- what is left to search is a part of the list
abbrev pub invariant-halves : goal.invariant-halves
invariant-halves l = l.high ≤ length l.stretches

abbrev pub decreases-halves : goal.decreases-halves
decreases-halves l = l.high - l.low
