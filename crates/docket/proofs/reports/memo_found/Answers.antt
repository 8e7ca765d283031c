use Rattle.docket.proofs.reports.memo_found.Goals as goal

pub returns-in-Ok-clause-found : goal.returns-in-Ok-clause-found
returns-in-Ok-clause-found c = rw c.in-Ok.is at (c.memo_on-found.ensures c.in_ok-docketed.ensures.docketed)
