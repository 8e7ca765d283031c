use Rattle.std.specs.Arc.{arc_value}
use Rattle.clerk_workers.proofs.shared.run.run_shared.Given as goal

-- an office of the history and the court that its publisher has, and of the blank's ledger
abbrev pub ghosts-attempt-L-NamesOffice : goal.ghosts-attempt-L-NamesOffice
ghosts-attempt-L-NamesOffice g a = record { history = a.publisher.trail.book; setup = a.publisher.parts }

abbrev pub ghosts-attempt-L-Ledger : goal.ghosts-attempt-L-Ledger
ghosts-attempt-L-Ledger g a = record { name = a.blank.name; parts = a.blank.parts }

abbrev pub ghosts-attempt-L-NamesCourt : goal.ghosts-attempt-L-NamesCourt
ghosts-attempt-L-NamesCourt g a = record { court = arc_value a.court.now }
