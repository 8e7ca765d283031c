use Rattle.std.proofs.Common.{◌≡◌, ◌++◌, ℕ, List, false, length}
use Rattle.std.specs.Io.KnownBytes.{Appends}
use Rattle.program_streams.specs.Watched.{watched, has_failed, was_called_again}
use Rattle.program_streams.proofs.output.write_all.Given as goal

-- what was written, and what is left, make up the text
abbrev pub invariant-loop-rest : goal.invariant-loop-rest
invariant-loop-rest g l =
    (front : List ℕ) × (l.text ≡ front ++ l.rest)
    × Appends (g.W.Write.contents (watched l.fn.writer)) (g.W.Write.contents (watched l.writer)) front
    × (has_failed l.writer ≡ false)
    × (was_called_again l.writer ≡ was_called_again l.fn.writer)

abbrev pub decreases-loop-rest : goal.decreases-loop-rest
decreases-loop-rest g l = length l.rest
