use Rattle.std.proofs.Common.{◌≡◌, ◌++◌, drop, string_bytes}
use Rattle.std.specs.List.{flat_map}
use Rattle.reason_notes.specs.Readings.Lines.{reading_line}
use Rattle.reason_notes.proofs.readings.lines.push_each.Given as goal

-- the lines so far, and those of the readings that are left, are all
abbrev pub invariant-loop-reading : goal.invariant-loop-reading
invariant-loop-reading l =
    string_bytes l.text ++ flat_map (reading_line l.days l.clock l.row) (drop l.reading-index l.readings) ≡ string_bytes l.fn.text ++ flat_map (reading_line l.days l.clock l.row) l.readings
