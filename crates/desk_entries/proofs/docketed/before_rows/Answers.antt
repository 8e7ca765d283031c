use Rattle.desk_entries.proofs.docketed.before_rows.Goals as goal

pub returns-clause-stands : goal.returns-clause-stands
returns-clause-stands c = λ file. c.in_ok-register.ensures.stands file
