use Rattle.std.proofs.Common.{rules}
use Rattle.std.proofs.lemmas.List.Sorted.{answers_always}
use Rattle.docket_selection.specs.Items.{time_of}
use Rattle.docket_selection.proofs.OrderLemmas.{by_time, ties}
use Rattle.docket_selection.proofs.due.in_order.Goals as goal

pub returns : goal.returns
returns c = record {
  same = c.sort_by_key.ensures.permutation;
  by_time = by_time _ (c.in_ok-sort_by_key.ensures.sorted time_of (answers_always _ _ _ (λ f a r g h. search rules)));
  ties = ties _ _ (c.sort_by_key.ensures.stable time_of (answers_always _ _ _ (λ f a r g h. search rules)));
}
