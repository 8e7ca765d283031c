use Rattle.shared_docket.specs.Always.{ShowDeadlines}
use Rattle.shared_docket.proofs.AlwaysLemmas.{deadlines_shown, holds}
use Rattle.shared_docket.proofs.laws.every_deadline_is_that_of_the_rules.Goals as goal

pub returns : goal.returns
returns c = holds ShowDeadlines (deadlines_shown c.deadlines_are_shown_by_the_days_as_docketed.ensures)
