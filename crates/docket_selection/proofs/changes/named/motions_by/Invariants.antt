use Rattle.std.proofs.Common.{take}
use Rattle.docket_selection.specs.Changes.Named.{NotesMotions}
use Rattle.docket_selection.proofs.changes.named.motions_by.Given as goal

-- the motions of the changes so far are noted
abbrev pub invariant-loop-change : goal.invariant-loop-change
invariant-loop-change l = NotesMotions (take l.change-index l.changes) l.motions
