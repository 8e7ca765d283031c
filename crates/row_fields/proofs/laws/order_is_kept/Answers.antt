use Rattle.row_fields.proofs.LawLemmas.{order_is_kept_lem}
use Rattle.row_fields.proofs.laws.order_is_kept.Goals as goal

pub returns : goal.returns
returns c = order_is_kept_lem
