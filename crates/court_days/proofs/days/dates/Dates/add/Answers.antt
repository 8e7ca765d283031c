use Rattle.std.proofs.Common.{◌≡◌, ◌<◌, false, length, sym, ◌∙◌, arith}
use Rattle.court_days.specs.Days.{is_among}
use Rattle.court_days.proofs.DaysLemmas.DatesLemmas.{marked_when_pushed, marked_when_outside}
use Rattle.court_days.proofs.days.dates.Dates.add.Goals as goal

pub invariant_of-self-in-Some : goal.invariant_of-self-in-Some
invariant_of-self-in-Some c =
    let absent : is_among c.self.inside.days.items c.args.day ≡ false = rw c.self.view_is (sym c.contains.ensures ∙ c.if-contains.false) in
    let within : c.in-Some.place < length c.self.inside.marks.items = omega (arith, c.in-Some.ensures.within, c.len.ensures) in
    rw c.in_ok-push.ensures.items (marked_when_pushed c.self.inside.first c.self.inside.days.items c.self.inside.marks.items c.args.day c.in-Some.place c.self.invariant absent within c.in-Some.ensures.some)

pub invariant_of-self-in_default : goal.invariant_of-self-in_default
invariant_of-self-in_default c =
    let absent : is_among c.self.inside.days.items c.args.day ≡ false = rw c.self.view_is (sym c.contains.ensures ∙ c.if-contains.false) in
    rw c.in_ok-push.ensures.items (marked_when_outside c.self.inside.first c.self.inside.days.items c.self.inside.marks.items c.args.day c.self.invariant absent (λ k within. c.in_default.ensures.none k (omega (arith, within, c.len.ensures))))
