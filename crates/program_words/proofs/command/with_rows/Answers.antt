-- The subcommands are added one by one, as in the definition.
use Rattle.std.proofs.Common.{refl, codes}
use Rattle.std.proofs.lemmas.Result.{IfOk-weaker}
use Rattle.program_main.proofs.ShapeLemmas.{shape_made}
use Rattle.program_words.specs.CommandLine.{ask_line, enter_line, init_line, plain_line, rows_line}
use Rattle.program_words.proofs.command.with_rows.Goals as goal

pub returns : goal.returns
returns c =
    let init_is = shape_made _ _ _ _ init_line.top refl refl c.init.ensures c.in_ok-init.ensures in
    let enter_is = shape_made _ _ _ _ enter_line.top refl init_is c.enter.ensures c.in_ok-enter.ensures in
    let trial_is = shape_made _ _ _ _ (rows_line (codes "try")).top refl enter_is c.trial.ensures c.in_ok-trial.ensures in
    let ask_is = shape_made _ _ _ _ ask_line.top refl trial_is c.ask.ensures c.in_ok-ask.ensures in
    IfOk-weaker c.with_subcommand-5.result _ _ (λ whole adds. shape_made _ whole _ _ plain_line.top refl ask_is c.plain.ensures adds) c.with_subcommand-5.ensures
