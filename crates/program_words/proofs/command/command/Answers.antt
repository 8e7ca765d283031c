-- The subcommands are added group by group, as in the definition.
use Rattle.std.proofs.Common.{◌∙◌, ap, codes, refl}
use Rattle.std.proofs.lemmas.Result.{IfOk-weaker}
use Rattle.clap.specs.Words.{new_app}
use Rattle.report_program.specs.Words.{with_reports}
use Rattle.program_main.proofs.ShapeLemmas.{shape_added, shape_made}
use Rattle.report_memo.specs.Words.{with_memo}
use Rattle.program_words.specs.CommandLine.{case_line, sheet_line, with_kept, with_rows}
use Rattle.program_words.proofs.command.command.Goals as goal

pub returns : goal.returns
returns c =
    let rows_is = c.in_ok-rows.ensures ∙ ap with_rows c.in_ok-bare.ensures in
    let kept_is = c.in_ok-kept.ensures ∙ ap with_kept rows_is in
    let reports_is = c.in_ok-reports.ensures ∙ ap with_reports kept_is in
    let memo_is = c.in_ok-memo.ensures ∙ ap with_memo reports_is in
    let sheet_is = shape_made _ _ _ _ sheet_line.top refl memo_is c.sheet.ensures c.in_ok-sheet.ensures in
    let case_is = shape_made _ _ _ _ case_line.top refl sheet_is c.case_page.ensures c.in_ok-case.ensures in
    IfOk-weaker c.subcommand.result _ _ (λ whole adds. shape_added _ _ whole _ (new_app (codes "court")).top refl case_is c.court.ensures adds) c.subcommand.ensures
