use Rattle.docket_decisions.proofs.commands.change_record.Goals as goal

pub returns-in-FileAct-clause-ok : goal.returns-in-FileAct-clause-ok
returns-in-FileAct-clause-ok c = rw c.in-FileAct.is c.record_act.ensures
