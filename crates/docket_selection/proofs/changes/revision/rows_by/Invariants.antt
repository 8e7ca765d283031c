use Rattle.std.proofs.Common.{take}
use Rattle.docket_selection.specs.Changes.Noted.{NotesRows}
use Rattle.docket_selection.proofs.changes.revision.rows_by.Given as goal

-- the rows of the changes so far are noted
abbrev pub invariant-loop-change : goal.invariant-loop-change
invariant-loop-change l = NotesRows (take l.change-index l.changes) l.rows
