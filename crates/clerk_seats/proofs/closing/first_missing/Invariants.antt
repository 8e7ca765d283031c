use Rattle.clerk_seats.specs.Closed.{HasTallies}
use Rattle.clerk_seats.proofs.closing.first_missing.Given as goal

-- the seats so far have tallies
abbrev pub invariant-loop-before : goal.invariant-loop-before
invariant-loop-before g l = HasTallies l.before l.tallies
