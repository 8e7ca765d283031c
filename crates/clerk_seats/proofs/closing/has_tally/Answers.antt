use Rattle.std.proofs.Common.{◌≡◌, All, List, subst}
use Rattle.std.proofs.lemmas.List.{take_all}
use Rattle.clerk_seats.specs.Closed.{TallyView}
use Rattle.clerk_seats.proofs.ClosingLemmas.{no_tally}
use Rattle.clerk_seats.proofs.closing.has_tally.Goals as goal

pub returns : goal.returns
returns g c =
    let ts : List TallyView = c.args.tallies.now in
    let P : TallyView → Type 0 = λ t. t.number ≡ c.args.number → ⊥ in
    no_tally ts c.args.number (subst (All P) (take_all c.loop-tally.tally-index ts c.loop-tally-test.false) c.loop-tally.invariant)
