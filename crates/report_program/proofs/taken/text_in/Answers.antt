use Rattle.report_program.proofs.taken.text_in.Goals as goal

pub returns-in-Listed-clause-found : goal.returns-in-Listed-clause-found
returns-in-Listed-clause-found c = λ past rows holds. rw c.in-Listed.is (c.listed_in.ensures.found past rows holds)

pub returns-in-Listed-clause-some : goal.returns-in-Listed-clause-some
returns-in-Listed-clause-some c = rw c.in-Listed.is c.listed_in.ensures.some
