use Rattle.std.proofs.Common.{◌≡◌, take}
use Rattle.court_writing.specs.Own.{texts}
use Rattle.court_writing.proofs.writing.are_names.Given as goal

-- the names so far are the same
abbrev pub invariant-loop-place : goal.invariant-loop-place
invariant-loop-place l = take l.place l.read ≡ texts (take l.place l.names)
