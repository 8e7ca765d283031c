use Rattle.std.proofs.Common.{◌≡◌, true, IfSome, refl, ◌∙◌, ap, subst, rules, SFits, w32, to_z-of_z}
use Rattle.court_days.specs.Words.{is_covered, is_open}
use Rattle.deadline_reasons.specs.Derivation.{Lead}
use Rattle.deadline_reasons.specs.Inside.Leading.{sought}
use Rattle.deadline_reasons.specs.Standing.{LastDay, Unstarted, Counting, Looking, Runs}
use Rattle.deadline_reasons.proofs.by_days.count.Goals as goal

pub returns-in_default-found : goal.returns-in_default-found
returns-in_default-found c = λ clock row rest start.
    let look = c.away_from_event.result in
    let day = c.in-Some.ensures.some in
    let fits : SFits w32 c.counted.result = search rules in
    let is_counted = day.0 ∙ to_z-of_z fits ∙ c.counted.ensures in
    let fits' : SFits w32 c.number.result = search rules in
    let begins = to_z-of_z fits' ∙ c.number.ensures.value in
    let next = ap (λ d. Looking d look (LastDay rest)) begins ∙ ap (λ l. Looking c.in-Some.day l (LastDay rest)) c.away_from_event.ensures in
    let counted = c.in_ok-push-2.ensures.leads c.args.days.now clock row (Counting c.args.from c.args.n c.args.direction rest) _ start (refl, is_counted, ap (is_covered c.args.days.now) day.0 ∙ day.1, next) in
    subst (λ f. Lead c.args.days.now clock row Unstarted c.look_for.new.reasons.items (sought look (LastDay rest) f)) c.in_default-found.is (c.in_ok-found.ensures.leads clock row (LastDay rest) counted)

pub returns : goal.returns
returns c = λ clock row rest start.
    let look = c.away_from_event.result in
    let day = c.in-Some.ensures.some in
    let fits : SFits w32 c.counted.result = search rules in
    let is_counted = day.0 ∙ to_z-of_z fits ∙ c.counted.ensures in
    let fits' : SFits w32 c.number.result = search rules in
    let begins = to_z-of_z fits' ∙ c.number.ensures.value in
    let next = ap (λ d. Looking d look (LastDay rest)) begins ∙ ap (λ l. Looking c.in-Some.day l (LastDay rest)) c.away_from_event.ensures in
    let counted = c.in_ok-push-2.ensures.leads c.args.days.now clock row (Counting c.args.from c.args.n c.args.direction rest) _ start (refl, is_counted, ap (is_covered c.args.days.now) day.0 ∙ day.1, next) in
    let found = subst (λ f. Lead c.args.days.now clock row Unstarted c.look_for.new.reasons.items (sought look (LastDay rest) f)) c.in-Some-found.is (c.in_ok-found.ensures.leads clock row (LastDay rest) counted) in
    let passes = subst (λ f. IfSome f (λ d. is_open c.args.days.now look.holidays look.accessible d ≡ true)) c.in-Some-found.is c.in_ok-found.ensures.found in
    c.in_ok-push-3.ensures.leads c.args.days.now clock row (Looking c.in-Some-found.last look (LastDay rest)) (Runs c.in-Some-found.last rest) found (passes, (refl, refl))
