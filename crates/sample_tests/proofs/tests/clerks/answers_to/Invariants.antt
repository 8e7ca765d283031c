use Rattle.sample_tests.proofs.tests.clerks.answers_to.Given as goal

-- the ledger is that of the blank, and names the history and the court that are published
abbrev pub ghosts-answers_in-L-Ledger : goal.ghosts-answers_in-L-Ledger
ghosts-answers_in-L-Ledger g a = record { name = a.blank.name; parts = a.blank.parts }

abbrev pub ghosts-answers_in-L-NamesOffice : goal.ghosts-answers_in-L-NamesOffice
ghosts-answers_in-L-NamesOffice g a = record { history = a.publisher.trail.book; setup = a.publisher.parts }
