use Rattle.std.proofs.Common.{length}
use Rattle.docket_selection.specs.Explained.Explained.{IsExplained}
use Rattle.docket_selection.proofs.ExplainedLemmas.AlikeLemmas.{AreLeft}
use Rattle.docket_selection.proofs.explained.explained.explained_deadlines.Given as goal

-- those that are left, and those that are explained, last first, are all
abbrev pub invariant-loop-deadline : goal.invariant-loop-deadline
invariant-loop-deadline l = AreLeft (IsExplained l.days l.clock) l.fn.deadlines.items l.left.items l.list.items

abbrev pub decreases-loop-deadline : goal.decreases-loop-deadline
decreases-loop-deadline l = length l.left.items
