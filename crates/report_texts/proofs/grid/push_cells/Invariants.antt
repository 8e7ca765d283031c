use Rattle.std.proofs.Common.{◌≡◌, ◌++◌, drop, string_bytes}
use Rattle.std.specs.List.{flat_map}
use Rattle.report_texts.specs.Grid.{day_cell}
use Rattle.report_texts.proofs.grid.push_cells.Given as goal

-- the cells so far, and those that are left, are all
abbrev pub invariant-loop-day : goal.invariant-loop-day
invariant-loop-day l = string_bytes l.text ++ flat_map (day_cell l.slot) (drop l.day-index l.week) ≡ string_bytes l.fn.text ++ flat_map (day_cell l.slot) l.week
