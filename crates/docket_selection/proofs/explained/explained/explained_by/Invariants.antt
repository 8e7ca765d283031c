use Rattle.std.proofs.Common.{length}
use Rattle.docket_selection.specs.Explained.Explained.{IsSheetExplained}
use Rattle.docket_selection.proofs.ExplainedLemmas.AlikeLemmas.{AreLeft}
use Rattle.docket_selection.proofs.explained.explained.explained_by.Given as goal

-- those that are left, and those that are explained, last first, are all
abbrev pub invariant-loop-sheet : goal.invariant-loop-sheet
invariant-loop-sheet l = AreLeft (IsSheetExplained l.days l.clock) l.fn.sheets.items l.left.items l.list.items

abbrev pub decreases-loop-sheet : goal.decreases-loop-sheet
decreases-loop-sheet l = length l.left.items
