use Rattle.hearing_slots.proofs.InOrderLemmas.{in_order-holds}
use Rattle.hearing_slots.proofs.laws.order_holds_the_same.Goals as goal

pub returns : goal.returns
returns c = in_order-holds
