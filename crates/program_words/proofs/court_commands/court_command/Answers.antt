-- The subcommands are added one by one, as in the definition.
use Rattle.std.proofs.Common.{refl}
use Rattle.std.proofs.lemmas.Result.{IfOk-weaker}
use Rattle.program_main.proofs.ShapeLemmas.{shape_made}
use Rattle.program_words.specs.CommandLine.{change_line, check_line, update_line, write_line}
use Rattle.program_words.proofs.court_commands.court_command.Goals as goal

pub returns : goal.returns
returns c =
    let check_is = shape_made _ _ _ _ check_line.top refl c.in_ok-bare.ensures c.check.ensures c.in_ok-check.ensures in
    let write_is = shape_made _ _ _ _ write_line.top refl check_is c.write.ensures c.in_ok-write.ensures in
    let update_is = shape_made _ _ _ _ update_line.top refl write_is c.update.ensures c.in_ok-update.ensures in
    IfOk-weaker c.with_subcommand-4.result _ _ (λ whole adds. shape_made _ whole _ _ change_line.top refl update_is c.change.ensures adds) c.with_subcommand-4.ensures
