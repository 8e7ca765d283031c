use Rattle.std.proofs.Common.{◌≡◌, ◌<◌, subst, arith, List}
use Rattle.hearing_slots.specs.declared.day_slots.DaySlots.{DaySlots}
use Rattle.hearing_slots.specs.Slots.{IsDayAt, IsGapForDay}
use Rattle.hearing_slots.proofs.DayEntries.{replaced, dropped, kept, marked-gap}
use Rattle.hearing_slots.proofs.day_slots.lower.Goals as goal

pub returns-in_default-clause-marks : goal.returns-in_default-clause-marks
returns-in_default-clause-marks c =
    let days = c.args.days.now.items in
    let gap = subst (λ (days : List DaySlots). IsGapForDay days c.args.day c.in_default.field-0) c.deref.ensures.value c.in_default.ensures.absent in
    let none : c.args.taken ≡ 0 = c.requires.fewer (marked-gap days c.args.day c.in_default.field-0 gap) in
    rw none (kept days c.args.day c.in_default.field-0 c.requires.masks gap)

pub returns-then-taken-eq0-clause-marks : goal.returns-then-taken-eq0-clause-marks
returns-then-taken-eq0-clause-marks c =
    let at = subst (λ (days : List DaySlots). IsDayAt days c.args.day c.in-Ok.place) c.deref.ensures.value c.in-Ok.ensures.found in
    rw (c.remove.ensures.items, c.if-taken-eq0.true) (dropped c.args.days.now.items c.args.day c.in-Ok.place c.remove.result c.requires.masks at)

pub returns-else-taken-eq0-clause-marks : goal.returns-else-taken-eq0-clause-marks
returns-else-taken-eq0-clause-marks c =
    let at = subst (λ (days : List DaySlots). IsDayAt days c.args.day c.in-Ok.place) c.deref.ensures.value c.in-Ok.ensures.found in
    let some : 0 < c.args.taken = omega (arith, c.if-taken-eq0.false) in
    replaced c.args.days.now.items c.args.day c.in-Ok.place c.args.taken c.requires.masks at some
