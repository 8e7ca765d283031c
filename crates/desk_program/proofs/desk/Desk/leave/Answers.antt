use Rattle.desk_program.proofs.desk.Desk.leave.Goals as goal

pub returns-clause-remembers : goal.returns-clause-remembers
returns-clause-remembers g c = λ fs keeps docket. record { ends = c.leave-disk.ensures.end fs keeps; docketed = docket.docketed }
