-- The subcommands are added one by one, as in the definition.
use Rattle.std.proofs.Common.{refl, codes}
use Rattle.std.proofs.lemmas.Result.{IfOk-weaker}
use Rattle.program_main.proofs.ShapeLemmas.{shape_made}
use Rattle.program_words.specs.CommandLine.{correction_line, folder_line, kept_line, log_line}
use Rattle.program_words.proofs.command.with_kept.Goals as goal

pub returns : goal.returns
returns c =
    let strike_is = shape_made _ _ _ _ (correction_line (codes "strike")).top refl refl c.strike.ensures c.in_ok-strike.ensures in
    let restore_is = shape_made _ _ _ _ (correction_line (codes "restore")).top refl strike_is c.restore.ensures c.in_ok-restore.ensures in
    let struck_is = shape_made _ _ _ _ (kept_line (codes "struck")).top refl restore_is c.struck.ensures c.in_ok-struck.ensures in
    let cases_is = shape_made _ _ _ _ (kept_line (codes "cases")).top refl struck_is c.cases.ensures c.in_ok-cases.ensures in
    let check_is = shape_made _ _ _ _ (folder_line (codes "check")).top refl cases_is c.check.ensures c.in_ok-check.ensures in
    let rows_is = shape_made _ _ _ _ (kept_line (codes "rows")).top refl check_is c.rows.ensures c.in_ok-rows.ensures in
    IfOk-weaker c.with_subcommand-7.result _ _ (λ whole adds. shape_made _ whole _ _ log_line.top refl rows_is c.log.ensures adds) c.with_subcommand-7.ensures
