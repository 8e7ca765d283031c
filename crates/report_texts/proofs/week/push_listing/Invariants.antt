use Rattle.std.proofs.Common.{◌≡◌, ◌++◌, drop, string_bytes}
use Rattle.std.specs.List.{flat_map}
use Rattle.report_texts.specs.Week.{day_lines}
use Rattle.report_texts.proofs.week.push_listing.Given as goal

-- the lines so far, and those of the days that are left, are all
abbrev pub invariant-loop-day : goal.invariant-loop-day
invariant-loop-day l = string_bytes l.text ++ flat_map (day_lines l.court l.labels) (drop l.day-index l.week) ≡ string_bytes l.fn.text ++ flat_map (day_lines l.court l.labels) l.week
