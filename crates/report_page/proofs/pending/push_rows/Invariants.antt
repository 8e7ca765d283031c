use Rattle.std.proofs.Common.{◌≡◌, ◌++◌, drop}
use Rattle.std.specs.List.{flat_map}
use Rattle.report_page.specs.Pending.{pending_row}
use Rattle.report_page.proofs.pending.push_rows.Given as goal

-- the rows so far, and those of the items that are left, are all
abbrev pub invariant-loop-item : goal.invariant-loop-item
invariant-loop-item l = l.page ++ flat_map (pending_row l.court l.labels) (drop l.item-index l.items) ≡ l.fn.page ++ flat_map (pending_row l.court l.labels) l.items
