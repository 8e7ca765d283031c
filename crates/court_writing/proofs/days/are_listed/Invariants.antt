use Rattle.std.proofs.Common.{ℕ, ◌<◌, pos, ◌+ℤ◌}
use Rattle.court_writing.specs.Written.{IsListed}
use Rattle.court_writing.proofs.days.are_listed.Given as goal

-- the days so far are listed as they have to be
abbrev pub invariant-loop-place : goal.invariant-loop-place
invariant-loop-place l = (k : ℕ) → k < l.place → IsListed l.state l.days (l.days.from +ℤ pos k)
