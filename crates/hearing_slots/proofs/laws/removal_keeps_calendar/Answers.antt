use Rattle.hearing_slots.proofs.Holdings.{removal_keeps}
use Rattle.hearing_slots.proofs.laws.removal_keeps_calendar.Goals as goal

pub returns : goal.returns
returns c = removal_keeps
