use Rattle.std.proofs.Common.{◌≡◌, true, IfSome, refl, sym, subst, rules, SFits, w32, to_z-of_z}
use Rattle.court_days.specs.Words.{is_open}
use Rattle.deadline_reasons.specs.Derivation.{Lead}
use Rattle.deadline_reasons.specs.Inside.Leading.{sought}
use Rattle.deadline_reasons.specs.Standing.{Hour, AccessibleHour, Unstarted, Looking, RunsUntil, MovedUntil}
use Rattle.deadline_reasons.proofs.by_hours.same_time.Goals as goal

pub returns-clause-hours : goal.returns-clause-hours
returns-clause-hours c = λ row grants start.
    let days = c.args.days.now in
    let clock = c.args.clock.now in
    let look = c.args.look in
    let aim = Hour c.args.second grants in
    let fits : SFits w32 c.args.start = search rules in
    let begin = subst (λ s. Lead days clock row Unstarted c.args.reasons.now.items (Looking s look aim)) (sym (to_z-of_z fits)) start in
    let found = subst (λ f. Lead days clock row Unstarted c.look_for.new.reasons.items (sought look aim f)) c.in-Some.is (c.in_ok-found.ensures.leads clock row aim begin) in
    let passes = subst (λ f. IfSome f (λ d. is_open days look.holidays look.accessible d ≡ true)) c.in-Some.is c.in_ok-found.ensures.found in
    c.in_ok-push.ensures.leads days clock row (Looking c.in-Some.day look aim) (RunsUntil c.instant_of-instant.result grants) found (passes, (refl, c.instant_of-instant.ensures, refl))

pub returns-clause-access : goal.returns-clause-access
returns-clause-access c = λ row start.
    let days = c.args.days.now in
    let clock = c.args.clock.now in
    let look = c.args.look in
    let aim = AccessibleHour c.args.second in
    let fits : SFits w32 c.args.start = search rules in
    let begin = subst (λ s. Lead days clock row Unstarted c.args.reasons.now.items (Looking s look aim)) (sym (to_z-of_z fits)) start in
    let found = subst (λ f. Lead days clock row Unstarted c.look_for.new.reasons.items (sought look aim f)) c.in-Some.is (c.in_ok-found.ensures.leads clock row aim begin) in
    let passes = subst (λ f. IfSome f (λ d. is_open days look.holidays look.accessible d ≡ true)) c.in-Some.is c.in_ok-found.ensures.found in
    c.in_ok-push.ensures.leads days clock row (Looking c.in-Some.day look aim) (MovedUntil c.instant_of-instant.result) found (passes, (refl, c.instant_of-instant.ensures, refl))
