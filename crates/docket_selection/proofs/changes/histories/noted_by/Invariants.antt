use Rattle.std.proofs.Common.{take}
use Rattle.docket_selection.specs.Changes.Noted.{NotesHistories}
use Rattle.docket_selection.proofs.changes.histories.noted_by.Given as goal

-- the changes so far are noted
abbrev pub invariant-loop-change : goal.invariant-loop-change
invariant-loop-change l = NotesHistories l.judge (take l.change-index l.changes) l.histories
