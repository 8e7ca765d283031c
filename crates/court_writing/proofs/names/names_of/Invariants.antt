use Rattle.std.proofs.Common.{◌≡◌, ◌+◌, [], drop}
use Rattle.court_file_check.specs.Inside.Names.{texts_of}
use Rattle.court_writing.specs.Names.{each_line}
use Rattle.court_writing.specs.Own.{texts}
use Rattle.court_writing.proofs.names.names_of.Given as goal

-- what the lines that are left come to after the names so far is what all lines come to
abbrev pub invariant-loop-place : goal.invariant-loop-place
invariant-loop-place l = each_line (l.place + 1) (texts_of l.names.items) (texts (drop l.place l.lines)) ≡ each_line 1 [] (texts l.lines)
