use Rattle.std.proofs.Common.{◌≡◌, ◌+◌, ◌≤◌, length}
use Rattle.clerk_seats.specs.Closed.{calls_of}
use Rattle.clerk_seats.proofs.closing.merge_all.Given as goal

-- what is merged and what is left make up all
abbrev pub invariant-loop-tally : goal.invariant-loop-tally
invariant-loop-tally g l = record {
  parts : l.rest.parts + length l.tallies.items ≡ l.fn.rest.parts + length l.fn.tallies.items;
  amount : l.rest.amount + calls_of l.tallies.items ≡ l.fn.rest.amount + calls_of l.fn.tallies.items;
  few : l.rest.parts ≤ g.L.Ledger.parts;
}

abbrev pub decreases-loop-tally : goal.decreases-loop-tally
decreases-loop-tally g l = length l.tallies.items
