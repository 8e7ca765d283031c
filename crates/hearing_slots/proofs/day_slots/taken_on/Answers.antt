use Rattle.std.proofs.Common.{sym}
use Rattle.hearing_slots.proofs.DayEntries.{marked-at, marked-gap}
use Rattle.hearing_slots.proofs.day_slots.taken_on.Goals as goal

pub returns-in-Ok : goal.returns-in-Ok
returns-in-Ok c = sym (marked-at c.args.days.now c.args.day c.in-Ok.place c.index-days-place.result c.in-Ok.ensures.found)

pub returns-in-Err : goal.returns-in-Err
returns-in-Err c = sym (marked-gap c.args.days.now c.args.day c.in-Err.field-0 c.in-Err.ensures.absent)
