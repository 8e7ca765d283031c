-- The subcommands are added one by one, as in the definition.
use Rattle.std.proofs.Common.{refl}
use Rattle.std.proofs.lemmas.Result.{IfOk-weaker}
use Rattle.program_main.proofs.ShapeLemmas.{shape_made}
use Rattle.report_program.proofs.subcommands.with_reports.Goals as goal

pub returns : goal.returns
returns c =
    let due_is = shape_made _ _ _ _ _ refl refl c.due.ensures c.in_ok-due.ensures in
    let week_is = shape_made _ _ _ _ _ refl due_is c.week.ensures c.in_ok-week.ensures in
    let page_is = shape_made _ _ _ _ _ refl week_is c.choosing.ensures c.in_ok-page.ensures in
    let ics_is = shape_made _ _ _ _ _ refl page_is c.ics.ensures c.in_ok-ics.ensures in
    let json_is = shape_made _ _ _ _ _ refl ics_is c.json.ensures c.in_ok-json.ensures in
    let sql_is = shape_made _ _ _ _ _ refl json_is c.sourced.ensures c.in_ok-sql.ensures in
    IfOk-weaker c.with_subcommand-7.result _ _ (λ whole adds. shape_made _ whole _ _ _ refl sql_is c.pending.ensures adds) c.with_subcommand-7.ensures
