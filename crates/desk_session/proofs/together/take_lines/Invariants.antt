use Rattle.std.proofs.Common.{◌≡◌, ◌+◌, ◌≤◌, ◌++◌, [], ℕ, List, length}
use Rattle.desk_journal.specs.Words.{batch_of}
use Rattle.desk_session.specs.Lines.{lines_of, numbered_from, numbered_lines, unfinished_of}
use Rattle.desk_session.specs.Stopped.{first_stopped}
use Rattle.desk_session.specs.Taken.{TakesLines, left_by}
use Rattle.desk_session.proofs.together.take_lines.Given as goal

-- the lines of a front of the input are taken, and the list stops where the lines of what is left stop it
abbrev pub invariant-loop-split : goal.invariant-loop-split
invariant-loop-split g l =
    (front : List ℕ) × (l.input ≡ front ++ l.rest) × (unfinished_of front ≡ []) × (l.number + length l.rest ≤ length l.input + 1)
    × ((kept : List (List ℕ)) → g.O.Register.stands l.setup l.fn.register kept →
    TakesLines (g.O.Register.leaves l.setup) (g.O.Register.answers l.setup) (g.O.Register.stands l.setup l.register) kept (lines_of front) (batch_of l.fn.batch.items) (batch_of l.batch.items) l.fn.text.items l.text.items
    × (first_stopped (g.O.Register.leaves l.setup) (g.O.Register.answers l.setup) (g.O.Register.outcome l.setup) l.keep_refused (kept ++ left_by (g.O.Register.leaves l.setup) kept (lines_of front)) (numbered_from l.number [] l.rest)
    ≡ first_stopped (g.O.Register.leaves l.setup) (g.O.Register.answers l.setup) (g.O.Register.outcome l.setup) l.keep_refused kept (numbered_lines l.input)))

abbrev pub decreases-loop-split : goal.decreases-loop-split
decreases-loop-split g l = length l.rest
