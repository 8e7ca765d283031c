use Rattle.hearing_slots.proofs.InOrderLemmas.{filter-in_order}
use Rattle.hearing_slots.proofs.laws.parts_stand_in_order.Goals as goal

pub returns : goal.returns
returns c = filter-in_order
