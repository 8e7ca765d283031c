use Rattle.std.proofs.Common.{◌≡◌}
use denote.Text.{Utf8}
use denote.Shadow.{shadow}
use Rattle.desk_program.specs.FaultWords.{part}
use Rattle.desk_program.proofs.fault_words.part.Given as goal

-- the part after the commas that are left
abbrev pub invariant-loop-left : goal.invariant-loop-left
invariant-loop-left l = shadow (Utf8 l.rest) × (part l.left l.rest ≡ part l.commas l.line)

abbrev pub decreases-loop-left : goal.decreases-loop-left
decreases-loop-left l = l.left
