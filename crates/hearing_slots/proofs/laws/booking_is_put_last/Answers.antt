use Rattle.hearing_slots.proofs.InOrderLemmas.{with_booking-in_order}
use Rattle.hearing_slots.proofs.laws.booking_is_put_last.Goals as goal

pub returns : goal.returns
returns c = with_booking-in_order
