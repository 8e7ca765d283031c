use Rattle.docket_rows.proofs.cases.CaseRecord.add_grant.Goals as goal

-- src/cases/changes.rt:44:9
pub add_grant-requires-clause-fits : goal.add_grant-requires-clause-fits
add_grant-requires-clause-fits c = rw (← c.self.view_is) at c.requires.fits
