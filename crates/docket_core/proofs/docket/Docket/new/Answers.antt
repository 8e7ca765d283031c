use Rattle.docket_core.proofs.DocketLemmas.{opening_docket}
use Rattle.docket_core.proofs.docket.Docket.new.Goals as goal

pub invariant_of-result : goal.invariant_of-result
invariant_of-result c = opening_docket _ c.in_ok-holdings.holdings c.in_ok-holdings.ensures.setup c.in_ok-holdings.ensures.parts
