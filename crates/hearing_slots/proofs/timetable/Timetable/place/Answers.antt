use Rattle.hearing_slots.specs.Calendar.{on_day}
use Rattle.hearing_slots.proofs.SlotBits.{some_taken}
use Rattle.hearing_slots.proofs.timetable.Timetable.place.Goals as goal

pub mark-requires-clause-some : goal.mark-requires-clause-some
mark-requires-clause-some c =
    let here = c.place_in.ensures.here in
    let day = c.args.booking.day in
    rw (c.slots_on-taken.ensures, c.deref.ensures.value) (some_taken (on_day day c.place_in.new.bookings.items) here.0 c.args.booking here.1 here.2 c.requires.within_day.some_slot)
