use Rattle.std.proofs.Common.{◌≡◌, true, ◌&&◌, [], Some, refl, sym, ◌∙◌, ap, subst, rules, SFits, w32, to_z-of_z}
use Rattle.std.specs.List.{list_any}
use Rattle.court_clock.specs.Words.{civil_of}
use Rattle.rule6.specs.declared.timeliness.Shown.TheVariants as shown
use Rattle.rule6.specs.Words.{meets_last_hour}
use Rattle.deadline_reasons.specs.Derivation.{Lead}
use Rattle.deadline_reasons.specs.Inside.Leading.{moved_to}
use Rattle.deadline_reasons.specs.Passing.{for_access, day_later}
use Rattle.deadline_reasons.specs.Row.{needs_access}
use Rattle.deadline_reasons.specs.Standing.{AccessibleHour, Unstarted, Looking, RunsUntil, MovedUntil, Nowhere, Ended}
use Rattle.deadline_reasons.proofs.by_hours.close_later.Goals as goal

pub returns-in_default : goal.returns-in_default
returns-in_default c =
    let days = c.args.days.now in
    let clock = c.args.clock.now in
    let row = c.args.row.now in
    let moves : (needs_access row && list_any (meets_last_hour clock c.args.end) days.outages) ≡ true = rw (c.requires.access, c.requires.met) refl in (
      shown.Beyond,
      λ start.
          let none = c.in_ok-push.ensures.leads days clock row (RunsUntil c.args.end []) (Nowhere []) start (moves, sym c.in_default.ensures.value, refl) in
          c.in_ok-push-2.ensures.leads days clock row (Nowhere []) (Ended shown.Beyond) none refl,
    )

pub returns-in_default-later : goal.returns-in_default-later
returns-in_default-later c =
    let days = c.args.days.now in
    let clock = c.args.clock.now in
    let row = c.args.row.now in
    let look = c.for_access-look.result in
    let aim = AccessibleHour c.in-Some.shown.1 in
    let civil : civil_of clock.zone c.args.end ≡ Some (record { day = c.in-Some.shown.0; second = c.in-Some.shown.1 }) = search rules in
    let fits : SFits w32 c.day_later.result = search rules in
    let begins = to_z-of_z fits ∙ c.day_later.ensures in
    let looks = c.for_access-look.ensures ∙ ap for_access c.access_holidays.ensures in
    let next = ap (λ d. Looking d look aim) begins ∙ ap (λ l. Looking (day_later days c.in-Some.shown.0) l aim) looks in (
      shown.Beyond,
      λ start.
          let shut = c.in_ok-push-3.ensures.leads days clock row (RunsUntil c.args.end []) _ start (c.requires.access, c.requires.outage, c.requires.meets, civil, next) in
          let none = subst (λ at. Lead days clock row Unstarted c.same_time.new.reasons.items (moved_to at)) c.in_default-later.is (c.in_ok-later.ensures.access row shut) in
          c.in_ok-push-4.ensures.leads days clock row (Nowhere []) (Ended shown.Beyond) none refl,
    )

pub returns : goal.returns
returns c =
    let days = c.args.days.now in
    let clock = c.args.clock.now in
    let row = c.args.row.now in
    let look = c.for_access-look.result in
    let aim = AccessibleHour c.in-Some.shown.1 in
    let instant = c.in-Some-later.instant in
    let civil : civil_of clock.zone c.args.end ≡ Some (record { day = c.in-Some.shown.0; second = c.in-Some.shown.1 }) = search rules in
    let fits : SFits w32 c.day_later.result = search rules in
    let begins = to_z-of_z fits ∙ c.day_later.ensures in
    let looks = c.for_access-look.ensures ∙ ap for_access c.access_holidays.ensures in
    let next = ap (λ d. Looking d look aim) begins ∙ ap (λ l. Looking (day_later days c.in-Some.shown.0) l aim) looks in (
      shown.Until instant,
      λ start.
          let shut = c.in_ok-push-3.ensures.leads days clock row (RunsUntil c.args.end []) _ start (c.requires.access, c.requires.outage, c.requires.meets, civil, next) in
          let moved = subst (λ at. Lead days clock row Unstarted c.same_time.new.reasons.items (moved_to at)) c.in-Some-later.is (c.in_ok-later.ensures.access row shut) in
          c.in_ok-push-5.ensures.leads days clock row (MovedUntil instant) (Ended (shown.Until instant)) moved (refl, refl),
    )
