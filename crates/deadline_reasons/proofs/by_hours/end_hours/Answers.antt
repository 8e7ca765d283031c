use Rattle.std.proofs.Common.{◌≡◌, Some, sym, ◌∙◌, ap, rules, SFits, w32, to_z-of_z}
use Rattle.court_clock.specs.Words.{civil_of}
use Rattle.deadline_reasons.specs.Standing.{Hour, HoursEnd, Looking}
use Rattle.deadline_reasons.proofs.DerivationLemmas.{if_ok}
use Rattle.deadline_reasons.proofs.by_hours.end_hours.Goals as goal

pub returns : goal.returns
returns c = λ row grants.
    let days = c.args.days.now in
    let clock = c.args.clock.now in
    let look = c.away_from_event.result in
    let aim = Hour c.in-Some.shown.1 grants in
    let civil : civil_of clock.zone c.args.end ≡ Some (record { day = c.in-Some.shown.0; second = c.in-Some.shown.1 }) = search rules in
    let fits : SFits w32 c.number.result = search rules in
    let next = ap (λ d. Looking d look aim) (to_z-of_z fits ∙ c.number.ensures.value) ∙ ap (λ l. Looking c.in-Some.shown.0 l aim) c.away_from_event.ensures in
    if_ok c.same_time.result _ _ (λ at more start. more (c.in_ok-push-3.ensures.leads days clock row (HoursEnd c.args.end c.args.direction grants) _ start (civil, sym c.is_permitted.ensures ∙ c.if-is_permitted.false, next))) (c.same_time.ensures.hours row grants)
