use Rattle.shared_docket.specs.Always.{IsOneDocket}
use Rattle.shared_docket.proofs.AlwaysLemmas.{always, one_docket}
use Rattle.shared_docket.proofs.laws.clerks_share_one_docket.Goals as goal

pub returns : goal.returns
returns c = always IsOneDocket one_docket
