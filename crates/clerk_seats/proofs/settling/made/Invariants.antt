use Rattle.std.proofs.Common.{◌≡◌}
use Rattle.clerk_seats.proofs.settling.made.Given as goal

-- until the command is made nothing is
abbrev pub invariant-loop : goal.invariant-loop
invariant-loop g l = (goal.iterator-loop g).can_next l.iterator' × (goal.iterator-loop g).is_finite l.iterator' × (l.seen ≡ l.fn.seen) × (l.share.parts ≡ l.fn.share.parts) × (l.share.amount ≡ l.fn.share.amount)
