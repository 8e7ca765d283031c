use Rattle.std.proofs.Common.{◌≡◌, ◌++◌, None, drop}
use Rattle.report_page.specs.Due.{due_rows}
use Rattle.report_page.proofs.due.push_rows.Given as goal

-- the rows so far, and those of the items that are left, are all
abbrev pub invariant-loop-item : goal.invariant-loop-item
invariant-loop-item l = l.page ++ due_rows l.court l.labels l.before (drop l.item-index l.items) ≡ l.fn.page ++ due_rows l.court l.labels None l.items
