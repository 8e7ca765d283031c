use Rattle.hearing_slots.proofs.Holdings.{booking_keeps}
use Rattle.hearing_slots.proofs.laws.booking_keeps_calendar.Goals as goal

pub returns : goal.returns
returns c = booking_keeps
