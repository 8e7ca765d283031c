use Rattle.docket.proofs.folder.opened.Goals as goal

pub returns-in-Ok-clause-opened : goal.returns-in-Ok-clause-opened
returns-in-Ok-clause-opened g c = c.in-Ok.ensures.opened _ c.in_ok-file.ensures
