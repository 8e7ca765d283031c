use Rattle.docket.proofs.SessionLemmas.{ok_both}
use Rattle.docket.proofs.folder.fn.desk_over.told_while.Goals as goal

pub returns : goal.returns
returns g c = record {
  opened = λ file durable. ok_both c.open.result _ _ _ (λ opened stood whole clean. let (stands, keeps) = stood clean in (whole clean, stands, keeps)) (c.open.ensures.opened file durable) (c.open.ensures.whole file durable);
  some = c.open.ensures.some;
  few = c.open.ensures.few;
}
