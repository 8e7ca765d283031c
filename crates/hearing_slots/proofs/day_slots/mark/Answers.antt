use Rattle.std.proofs.Common.{subst, List}
use Rattle.hearing_slots.specs.declared.day_slots.DaySlots.{DaySlots}
use Rattle.hearing_slots.specs.Slots.{IsDayAt, IsGapForDay}
use Rattle.hearing_slots.proofs.DayEntries.{replaced, entered}
use Rattle.hearing_slots.proofs.day_slots.mark.Goals as goal

pub returns-in-Ok : goal.returns-in-Ok
returns-in-Ok c =
    let at = subst (λ (days : List DaySlots). IsDayAt days c.args.day c.in-Ok.place) c.deref.ensures.value c.in-Ok.ensures.found in
    replaced c.args.days.now.items c.args.day c.in-Ok.place c.args.taken c.requires.masks at c.requires.some

pub returns-in-Err : goal.returns-in-Err
returns-in-Err c =
    let gap = subst (λ (days : List DaySlots). IsGapForDay days c.args.day c.in-Err.place) c.deref.ensures.value c.in-Err.ensures.absent in
    let items = rw c.unwrap.ensures at c.insert.ensures.items in
    rw items (entered c.args.days.now.items c.args.day c.in-Err.place c.args.taken c.requires.masks gap c.requires.some)
