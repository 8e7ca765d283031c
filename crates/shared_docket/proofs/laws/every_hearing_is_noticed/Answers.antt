use Rattle.docket_laws.specs.Words.{AllHaveNotice}
use Rattle.shared_docket.specs.Sequential.{commands_of, rows_of}
use Rattle.shared_docket.proofs.AlwaysLemmas.{holds}
use Rattle.shared_docket.proofs.laws.every_hearing_is_noticed.Goals as goal

pub returns : goal.returns
returns c =
    holds (λ setup history. AllHaveNotice (rows_of setup history)) (λ setup history legal. c.every_hearing_has_its_notice.ensures setup (commands_of history))
