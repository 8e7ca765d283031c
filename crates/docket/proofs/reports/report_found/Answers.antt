use Rattle.docket.proofs.reports.report_found.Goals as goal

pub returns-in-Ok-clause-found : goal.returns-in-Ok-clause-found
returns-in-Ok-clause-found c = rw c.in-Ok.is at c.report_on-found.ensures
