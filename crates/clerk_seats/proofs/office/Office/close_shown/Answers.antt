use Rattle.std.proofs.Common.{◌≡◌, ◌≤◌, List, length, subst, arith}
use Rattle.clerk_seats.specs.Closed.{TallyView, HasTallies}
use Rattle.clerk_seats.proofs.ClosingLemmas.{apart, of_seats}
use Rattle.clerk_seats.proofs.office.Office.close_shown.Goals as goal

pub close-requires-clause-whole : goal.close-requires-clause-whole
close-requires-clause-whole g c seats sum =
    let ts : List TallyView = c.args.tallies.items in
    let whole : HasTallies c.self.inside.seats ts = subst (HasTallies c.self.inside.seats) c.deref.ensures.value c.in_default.ensures.whole in
    let same : c.self.inside.seats ≡ seats = omega (arith, sum, c.self.invariant.all_parts) in
    subst (λ n. HasTallies n ts) same whole

pub returns-clause-whole : goal.returns-clause-whole
returns-clause-whole g c =
    rw (← c.self.view_is) (subst (HasTallies c.self.inside.seats) c.deref.ensures.value c.in_default.ensures.whole)

pub returns-clause-seats : goal.returns-clause-seats
returns-clause-seats g c =
    let ts : List TallyView = c.args.tallies.items in
    let whole : HasTallies c.self.inside.seats ts = subst (HasTallies c.self.inside.seats) c.deref.ensures.value c.in_default.ensures.whole in
    let few : length ts ≤ c.self.inside.seats = omega (arith, c.close.ensures.few, c.self.invariant.all_parts) in
    rw (← c.self.view_is) (of_seats c.self.inside.seats ts whole few)

pub returns-clause-apart : goal.returns-clause-apart
returns-clause-apart g c =
    let ts : List TallyView = c.args.tallies.items in
    let whole : HasTallies c.self.inside.seats ts = subst (HasTallies c.self.inside.seats) c.deref.ensures.value c.in_default.ensures.whole in
    apart c.self.inside.seats ts whole (omega (arith, c.close.ensures.few, c.self.invariant.all_parts))
