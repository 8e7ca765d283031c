use Rattle.std.proofs.lemmas.Result.{IfOk-weaker}
use Rattle.docket_rows.specs.Words.{AreLawful, setup_of}
use Rattle.shared_docket.specs.Sequential.{rows_of}
use Rattle.shared_docket.proofs.SequentialLemmas.{history_lawful}
use Rattle.shared_docket.proofs.steps.docket_steps.Goals as goal

pub returns-clause-lawful : goal.returns-clause-lawful
returns-clause-lawful c =
    IfOk-weaker c.run_steps.result _ (λ w. AreLawful (setup_of c.args.court.now) (rows_of (setup_of c.args.court.now) w.history.items)) (λ w legal. history_lawful (setup_of c.args.court.now) w.history.items) c.run_steps.ensures.legal
