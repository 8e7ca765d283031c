use Rattle.std.proofs.Common.{All, List, refl, subst}
use Rattle.std.proofs.lemmas.List.{take_all}
use Rattle.std.proofs.lemmas.List.Elements.{All-more}
use mathlib.Core.List.{IsPrefix}
use Rattle.clerk_seats.specs.Closed.{TallyView}
use Rattle.clerk_seats.specs.Places.{Within, places_of}
use Rattle.clerk_seats.proofs.closing.all_seen.Goals as goal

pub loop-tally-preserved : goal.loop-tally-preserved
loop-tally-preserved g c =
    let ts : List TallyView = c.args.tallies.now in
    let log = c.args.now.now.log in
    let P : TallyView → Type 0 = λ t. IsPrefix t.seen log in
    let Q : TallyView → Type 0 = λ t. Within t.mine (places_of t.number log) in
    let i = c.loop-tally.tally-index in
    let t : TallyView = c.tally-item.result in
    record {
      seen = All-more P ts i t c.loop-tally-test.true c.loop-tally.invariant.seen (subst P c.tally-item.is (c.if-not-is_seen.ensures.seen refl));
      mine = All-more Q ts i t c.loop-tally-test.true c.loop-tally.invariant.mine (subst Q c.tally-item.is (c.if-not-is_seen.ensures.mine refl));
    }

pub returns-clause-seen : goal.returns-clause-seen
returns-clause-seen g c _ =
    let P : TallyView → Type 0 = λ t. IsPrefix t.seen c.args.now.now.log in
    subst (All P) (take_all c.loop-tally.tally-index c.args.tallies.now c.loop-tally-test.false) c.loop-tally.invariant.seen

pub returns-clause-mine : goal.returns-clause-mine
returns-clause-mine g c _ =
    let Q : TallyView → Type 0 = λ t. Within t.mine (places_of t.number c.args.now.now.log) in
    subst (All Q) (take_all c.loop-tally.tally-index c.args.tallies.now c.loop-tally-test.false) c.loop-tally.invariant.mine
