use Rattle.versioned_steps.proofs.CallerLemmas.{finished_once}
use Rattle.shared_docket.specs.DocketRules.{docket_rules}
use Rattle.shared_docket.proofs.laws.each_finished_command_stands_once.Goals as goal

pub returns : goal.returns
returns c = λ setup. finished_once (docket_rules setup)
