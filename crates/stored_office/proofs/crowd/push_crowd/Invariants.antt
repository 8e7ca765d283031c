use Rattle.stored_office.proofs.crowd.push_crowd.Given as goal

-- the ledger is that of the blank, and names the history and the court that are published
abbrev pub ghosts-is_done-L-Ledger : goal.ghosts-is_done-L-Ledger
ghosts-is_done-L-Ledger g a = record { name = a.blank.name; parts = a.blank.parts }

abbrev pub ghosts-is_done-L-NamesOffice : goal.ghosts-is_done-L-NamesOffice
ghosts-is_done-L-NamesOffice g a = record { history = a.publisher.trail.book; setup = a.publisher.parts }
