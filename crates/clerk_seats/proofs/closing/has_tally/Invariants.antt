use Rattle.std.proofs.Common.{◌≡◌, All, take}
use Rattle.clerk_seats.specs.Closed.{TallyView}
use Rattle.clerk_seats.proofs.closing.has_tally.Given as goal

-- none of the tallies so far has the number
abbrev pub invariant-loop-tally : goal.invariant-loop-tally
invariant-loop-tally g l = All (λ (t : TallyView). t.number ≡ l.number → ⊥) (take l.tally-index l.tallies)
