use Rattle.std.proofs.Common.{◌≡◌, take}
use Rattle.docket_selection.specs.Changes.Revision.{changes_days, last_row}
use Rattle.docket_selection.proofs.changes.revision.days_row.Given as goal

-- the last row of the changes so far
abbrev pub invariant-loop-change : goal.invariant-loop-change
invariant-loop-change l = l.last ≡ last_row changes_days (take l.change-index l.changes)
