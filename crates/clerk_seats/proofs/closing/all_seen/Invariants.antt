use Rattle.std.proofs.Common.{All, take}
use mathlib.Core.List.{IsPrefix}
use Rattle.clerk_seats.specs.Closed.{TallyView}
use Rattle.clerk_seats.specs.Places.{Within, places_of}
use Rattle.clerk_seats.proofs.closing.all_seen.Given as goal

-- so it is of the tallies so far
abbrev pub invariant-loop-tally : goal.invariant-loop-tally
invariant-loop-tally g l = record {
  seen : All (λ (t : TallyView). IsPrefix t.seen l.now.log) (take l.tally-index l.tallies);
  mine : All (λ (t : TallyView). Within t.mine (places_of t.number l.now.log)) (take l.tally-index l.tallies);
}
