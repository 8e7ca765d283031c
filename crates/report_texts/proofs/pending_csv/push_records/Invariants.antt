use Rattle.std.proofs.Common.{◌≡◌, ◌++◌, drop}
use Rattle.std.specs.List.{flat_map}
use Rattle.report_texts.specs.PendingCsv.{pending_record}
use Rattle.report_texts.proofs.pending_csv.push_records.Given as goal

-- the records so far, and those of the items that are left, are all
abbrev pub invariant-loop-item : goal.invariant-loop-item
invariant-loop-item l = l.bytes.items ++ flat_map (pending_record l.court l.labels) (drop l.item-index l.items) ≡ l.fn.bytes.items ++ flat_map (pending_record l.court l.labels) l.items
