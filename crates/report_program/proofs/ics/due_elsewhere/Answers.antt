use Rattle.std.proofs.lemmas.Result.{IfOk-weaker}
use Rattle.report_program.proofs.ics.due_elsewhere.Goals as goal

pub returns-in-Some : goal.returns-in-Some
returns-in-Some c = λ docketed holds.
    IfOk-weaker c.placed_due.result _ _ (λ list due some. due) (rw c.of_other_cases.ensures at (c.placed_due.ensures docketed holds))
