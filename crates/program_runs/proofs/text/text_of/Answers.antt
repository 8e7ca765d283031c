use Rattle.std.proofs.Common.{subst}
use Rattle.program_runs.specs.Division.{court_part}
use Rattle.program_runs.specs.Office.{Input, IsChecked, input_of}
use Rattle.program_runs.specs.Report.{IsFinding}
use Rattle.program_runs.proofs.InputLemmas.{made_further, same_input}
use Rattle.program_runs.proofs.text.text_of.Goals as goal

-- what is found is that of the court and the rows that were checked, and so of the input's
pub returns-in-Ok : goal.returns-in-Ok
returns-in-Ok g c =
    let checked = c.in_ok-checked.checked in
    let found = c.in-Ok.found in
    let bytes = g.P.Text.MadeText.bytes in
    let IsText = g.P.Report.is_text c.args.report.now in
    let IsMissing = g.P.Report.is_missing c.args.report.now in
    let file = court_part c.args.input.now in
    made_further IsChecked (λ input f. IsFinding bytes (IsText file input) (IsMissing file input) f) checked found (input_of (g.P.Report.clerk_count c.args.report.now) c.args.input.now)
    (λ input is. subst (λ (i : Input). IsFinding bytes (IsText file i) (IsMissing file i) found) (same_input input checked is) (rw c.divide.ensures.court at c.in-Ok.ensures))
    (rw c.clerks.ensures at c.in_ok-checked.ensures.said)
