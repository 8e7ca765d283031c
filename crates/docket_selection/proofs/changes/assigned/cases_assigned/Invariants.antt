use Rattle.std.proofs.Common.{take}
use Rattle.docket_selection.specs.Changes.Assigned.{NotesAssigned}
use Rattle.docket_selection.proofs.changes.assigned.cases_assigned.Given as goal

-- the cases of the changes so far are noted
abbrev pub invariant-loop-change : goal.invariant-loop-change
invariant-loop-change l = NotesAssigned l.judge (take l.change-index l.changes) l.cases
