use Rattle.std.proofs.Common.{◌≡◌, ◌++◌, drop, string_bytes}
use Rattle.std.specs.List.{flat_map}
use Rattle.report_texts.specs.Grid.{day_name_cell}
use Rattle.report_texts.proofs.grid.push_day_names.Given as goal

-- the names so far, and those that are left, are all
abbrev pub invariant-loop-day : goal.invariant-loop-day
invariant-loop-day l = string_bytes l.text ++ flat_map (day_name_cell) (drop l.day-index l.week) ≡ string_bytes l.fn.text ++ flat_map (day_name_cell) l.week
