use Rattle.published_docket.proofs.PublishedLemmas.{looks}
use Rattle.published_docket.proofs.protocol.enter.Goals as goal

pub enter_as-requires : goal.enter_as-requires
enter_as-requires c x = looks _ _ x
