use Rattle.report_program.proofs.taken.report_of_docket.Goals as goal

pub returns-clause-found : goal.returns-clause-found
returns-clause-found c = λ past rows holds.
    rw (c.as_slice.ensures.value, c.as_slice-2.ensures.value, c.in_ok-found.ensures.names, c.in_ok-found.ensures.doubtful) at (c.answer_in.ensures.found past rows holds)
