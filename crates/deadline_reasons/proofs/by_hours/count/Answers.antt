use Rattle.std.proofs.Common.{◌+ℤ◌, refl, sym, ◌∙◌, ap, rules, SFits, w32, to_z-of_z}
use Rattle.court_clock.specs.Words.{IsInstantSecond, offset_seconds}
use Rattle.rule6.specs.Words.{hours_from}
use Rattle.rule6.proofs.CallerLemmas.{no_civil_time}
use Rattle.deadline_reasons.specs.Standing.{CountingHours, HoursEnd, Nowhere}
use Rattle.deadline_reasons.proofs.DerivationLemmas.{if_ok}
use Rattle.deadline_reasons.proofs.by_hours.count.Goals as goal

pub returns-in_default : goal.returns-in_default
returns-in_default c = λ row grants start.
    let none = no_civil_time c.args.clock.now (hours_from c.args.from c.args.h c.args.direction) c.in_default.ensures.none in
    c.in_ok-push.ensures.leads c.args.days.now c.args.clock.now row (CountingHours c.args.from c.args.h c.args.direction grants) (Nowhere grants) start (c.in_default.ensures.none, none, refl)

pub returns : goal.returns
returns c = λ row grants.
    let from = offset_seconds c.args.clock.now.zone c.args.from in
    let fits : SFits w32 c.forward.result = search rules in
    let held : IsInstantSecond c.in-Some.end = search rules in
    let moved = c.forward.ensures ∙ ap (λ f. from +ℤ f) (sym (to_z-of_z fits)) in
    if_ok c.end_hours.result _ _ (λ at more start. more (c.in_ok-push-2.ensures.leads c.args.days.now c.args.clock.now row (CountingHours c.args.from c.args.h c.args.direction grants) (HoursEnd c.in-Some.end c.args.direction grants) start (refl, c.in-Some.ensures.some, moved, held, refl))) (c.end_hours.ensures row grants)
