use Rattle.std.proofs.Common.{◌≡◌, ◌++◌, None, drop, string_bytes}
use Rattle.report_texts.specs.Due.{lines_after}
use Rattle.report_texts.proofs.due.push_items.Given as goal

-- the lines so far, and those of the items that are left, are all
abbrev pub invariant-loop-item : goal.invariant-loop-item
invariant-loop-item l = string_bytes l.text ++ lines_after l.court l.labels l.before (drop l.item-index l.items) ≡ string_bytes l.fn.text ++ lines_after l.court l.labels None l.items
