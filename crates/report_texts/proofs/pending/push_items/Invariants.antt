use Rattle.std.proofs.Common.{◌≡◌, ◌++◌, drop, string_bytes}
use Rattle.std.specs.List.{flat_map}
use Rattle.report_texts.specs.Pending.{pending_lines}
use Rattle.report_texts.proofs.pending.push_items.Given as goal

-- the lines so far, and those of the items that are left, are all
abbrev pub invariant-loop-item : goal.invariant-loop-item
invariant-loop-item l = string_bytes l.text ++ flat_map (pending_lines l.court l.labels) (drop l.item-index l.items) ≡ string_bytes l.fn.text ++ flat_map (pending_lines l.court l.labels) l.items
