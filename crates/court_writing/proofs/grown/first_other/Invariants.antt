use Rattle.std.proofs.Common.{ℕ, ◌<◌, pos, ◌+ℤ◌}
use Rattle.court_writing.specs.Update.{IsKept}
use Rattle.court_writing.proofs.grown.first_other.Given as goal

-- the days so far are in the lists as they have to be
abbrev pub invariant-loop-place : goal.invariant-loop-place
invariant-loop-place l = (k : ℕ) → k < l.place → IsKept l.state l.before l.days (l.days.from +ℤ pos k)
