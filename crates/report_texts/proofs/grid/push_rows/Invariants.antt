use Rattle.std.proofs.Common.{◌≡◌, ◌-◌, ◌++◌, string_bytes}
use Rattle.std.specs.List.{flat_map, range_with_len}
use Rattle.report_texts.specs.Grid.{slot_row}
use Rattle.report_texts.proofs.grid.push_rows.Given as goal

-- the rows so far, and those of the slots that are left, are all
abbrev pub invariant-loop-slot : goal.invariant-loop-slot
invariant-loop-slot l = string_bytes l.text ++ flat_map (slot_row l.week) (range_with_len l.slot (l.end - l.slot)) ≡ string_bytes l.fn.text ++ flat_map (slot_row l.week) (range_with_len l.fn.first (l.end - l.fn.first))
