use Rattle.std.proofs.Common.{◌≡◌, true, false, [], IfSome, refl, ◌∙◌, ap, subst, rules, SFits, w32, to_z-of_z}
use Rattle.court_days.specs.Words.{is_open}
use Rattle.rule6.specs.declared.timeliness.Shown.TheVariants as shown
use Rattle.rule_periods.specs.Words.{act_due}
use Rattle.deadline_reasons.specs.Derivation.{Lead}
use Rattle.deadline_reasons.specs.Inside.Leading.{sought}
use Rattle.deadline_reasons.specs.Follows.{Closes}
use Rattle.deadline_reasons.specs.Passing.{for_access, day_later}
use Rattle.deadline_reasons.specs.Standing.{AccessibleDay, Unstarted, Looking, Runs, Moved, Nowhere, Ended}
use Rattle.deadline_reasons.proofs.access.close_later.Goals as goal

pub returns-in_default : goal.returns-in_default
returns-in_default c =
    let days = c.args.days.now in
    let clock = c.args.clock.now in
    let row = c.args.row.now in
    let look = c.for_access-look.result in
    let fits : SFits w32 c.day_later.result = search rules in
    let begins = to_z-of_z fits ∙ c.day_later.ensures in
    let looks = c.for_access-look.ensures ∙ ap for_access c.access_holidays.ensures in
    let next = ap (λ d. Looking d look AccessibleDay) begins ∙ ap (λ l. Looking (day_later days c.args.last) l AccessibleDay) looks in (
      shown.Beyond,
      λ start.
          let shut = c.in_ok-push.ensures.leads days clock row (Runs c.args.last (record { three = false; grants = [] })) _ start (c.requires.access, c.requires.outage, c.requires.day, next) in
          let none = subst (λ f. Lead days clock row Unstarted c.look_for.new.reasons.items (sought look AccessibleDay f)) c.in_default.is (c.in_ok-found.ensures.leads clock row AccessibleDay shut) in
          c.in_ok-push-2.ensures.leads days clock row (Nowhere []) (Ended shown.Beyond) none refl,
    )

pub returns : goal.returns
returns c =
    let days = c.args.days.now in
    let clock = c.args.clock.now in
    let row = c.args.row.now in
    let day = c.in-Some.day in
    let look = c.for_access-look.result in
    let fits : SFits w32 c.day_later.result = search rules in
    let begins = to_z-of_z fits ∙ c.day_later.ensures in
    let looks = c.for_access-look.ensures ∙ ap for_access c.access_holidays.ensures in
    let next = ap (λ d. Looking d look AccessibleDay) begins ∙ ap (λ l. Looking (day_later days c.args.last) l AccessibleDay) looks in
    let act = c.act_due.ensures in
    let closes = subst (λ a. Closes clock a day c.closing.result (Ended (shown.Last day a))) act c.closing.ensures in (
      shown.Last day (act_due row),
      λ start.
          let shut = c.in_ok-push.ensures.leads days clock row (Runs c.args.last (record { three = false; grants = [] })) _ start (c.requires.access, c.requires.outage, c.requires.day, next) in
          let found = subst (λ f. Lead days clock row Unstarted c.look_for.new.reasons.items (sought look AccessibleDay f)) c.in-Some.is (c.in_ok-found.ensures.leads clock row AccessibleDay shut) in
          let passes = subst (λ f. IfSome f (λ d. is_open days look.holidays look.accessible d ≡ true)) c.in-Some.is c.in_ok-found.ensures.found in
          let moved = c.in_ok-push-3.ensures.leads days clock row (Looking day look AccessibleDay) (Moved day) found (passes, (refl, refl)) in
          c.in_ok-push-4.ensures.leads days clock row (Moved day) (Ended (shown.Last day (act_due row))) moved closes,
    )
