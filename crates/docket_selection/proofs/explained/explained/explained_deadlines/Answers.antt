use Rattle.std.proofs.Common.{◌≡◌, [], List, length, subst, sym, arith}
use Rattle.std.proofs.lemmas.List.{nil_from_length}
use Rattle.docket_selection.specs.declared.explained.explained.ExplainedDeadline.{ExplainedDeadline}
use Rattle.docket_selection.specs.Explained.Explained.{AreAlike, IsExplained}
use Rattle.docket_selection.proofs.ExplainedLemmas.AlikeLemmas.{AreLeft, all_left, none_left, one_less}
use Rattle.docket_selection.proofs.explained.explained.explained_deadlines.Goals as goal

pub loop-deadline-init : goal.loop-deadline-init
loop-deadline-init c =
    let R = IsExplained c.args.days.now c.args.clock.now in
    subst (λ (done : List ExplainedDeadline). AreLeft R c.args.deadlines.items c.args.deadlines.items done) (sym c.new-list.ensures.items) (all_left R c.args.deadlines.items)

pub loop-deadline-preserved : goal.loop-deadline-preserved
loop-deadline-preserved c =
    let R = IsExplained c.args.days.now c.args.clock.now in
    subst (λ (done : List ExplainedDeadline). AreLeft R c.args.deadlines.items c.pop.new.self.items done) (sym c.in_ok-push.ensures.items)
    (one_less R c.args.deadlines.items c.loop-deadline.left.items c.pop.new.self.items c.loop-deadline.list.items c.in-Some.deadline c.in_ok-explained_deadline.field-0 c.in-Some.ensures.items c.in_ok-explained_deadline.ensures c.loop-deadline.invariant)

pub returns : goal.returns
returns c =
    let R = IsExplained c.args.days.now c.args.clock.now in
    let zero : length c.loop-deadline.left.items ≡ 0 = omega (arith, c.in_default.ensures.cases) in
    let none : c.loop-deadline.left.items ≡ [] = nil_from_length c.loop-deadline.left.items zero in
    subst (λ (done : List ExplainedDeadline). AreAlike R c.args.deadlines.items done) (sym c.reverse.ensures.items) (none_left R c.args.deadlines.items c.loop-deadline.left.items c.loop-deadline.list.items none c.loop-deadline.invariant)
