use Rattle.clerk_seats.proofs.ClosingLemmas.{one_more}
use Rattle.clerk_seats.proofs.closing.first_missing.Goals as goal

pub loop-before-preserved : goal.loop-before-preserved
loop-before-preserved g c = one_more c.args.tallies.now c.loop-before.before c.loop-before.invariant c.if-not-has_tally.ensures
