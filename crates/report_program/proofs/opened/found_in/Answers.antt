use Rattle.std.proofs.Common.{◌∙◌, ℕ, Option, Result, ap}
use Rattle.report_program.specs.declared.chosen.Chosen.{Chosen}
use Rattle.report_program.specs.declared.chosen.Missing.{Missing}
use Rattle.report_program.specs.Calendar.{docketed_by}
use Rattle.report_program.specs.Opened.{case_of, closed_in, found_unless}
use Rattle.report_program.proofs.TakenLemmas.{found_same}
use Rattle.report_program.proofs.opened.found_in.Goals as goal

pub returns : goal.returns
returns c rows holds =
    let court = c.args.court.now in
    let docketed = docketed_by court rows in
    c.found_unless.ensures
    ∙ ap (λ (closed : Option ℕ). found_unless c.chosen_of-chosen.result closed) (c.in_ok-closed.ensures docketed holds ∙ ap (closed_in court docketed) c.case_of.ensures)
    ∙ ap (λ (chosen : Result Chosen Missing). found_unless chosen (closed_in court docketed (case_of chosen))) c.chosen_of-chosen.ensures
    ∙ found_same court rows c.args.labels.now.cases c.args.asked.now
