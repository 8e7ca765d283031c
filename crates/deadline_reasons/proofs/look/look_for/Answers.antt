use Rattle.std.proofs.Common.{refl, sym, ◌∙◌, ap, subst, rules, SFits, w32, to_z, to_z-of_z}
use Rattle.rule6.specs.Words.{next_day}
use Rattle.deadline_reasons.specs.Derivation.{Lead}
use Rattle.deadline_reasons.specs.Passing.{IsFirstCause}
use Rattle.deadline_reasons.specs.Standing.{Unstarted, Looking, Nowhere, grants_behind}
use Rattle.deadline_reasons.proofs.look.look_for.Goals as goal

pub days-preserved : goal.days-preserved
days-preserved c =
    let look = c.args.look in
    let day = c.in-Some.ensures.some in
    let fits : SFits w32 c.next_day-number.result = search rules in
    let cause = subst (λ d. IsFirstCause c.args.days.now look d c.in-Some-cause_of.cause) day.0 c.in-Some-cause_of.ensures.some in
    record {
      so_far = λ clock row aim start.
          c.in_ok-push.ensures.leads c.args.days.now clock row (Looking (to_z w32 c.days.number-bits) look aim) _ (c.days.invariant.so_far clock row aim start)
          (day.0, day.1, cause, ap (λ d. Looking d look aim) (to_z-of_z fits ∙ c.next_day-number.ensures ∙ ap (next_day look.going) day.0));
    }

pub returns-clause-leads : goal.returns-clause-leads
returns-clause-leads c = λ clock row aim start.
    let look = c.args.look in
    let fits : SFits w32 c.args.start = search rules in
    let begin = subst (λ s. Lead c.args.days.now clock row Unstarted c.args.reasons.now.items (Looking s look aim)) (sym (to_z-of_z fits)) start in
    c.in_ok-push-2.ensures.leads c.args.days.now clock row (Looking (to_z w32 c.days.number-bits) look aim) (Nowhere (grants_behind aim)) (c.days.invariant.so_far clock row aim begin)
    (c.in_default.ensures.none, refl)
