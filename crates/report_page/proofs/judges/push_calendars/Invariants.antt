use Rattle.std.proofs.Common.{◌≡◌, ◌++◌, drop}
use Rattle.std.specs.List.{flat_map}
use Rattle.report_page.specs.Judges.{judge_part}
use Rattle.report_page.proofs.judges.push_calendars.Given as goal

-- the parts so far, and those that are left, are all
abbrev pub invariant-loop-calendar : goal.invariant-loop-calendar
invariant-loop-calendar l = l.page ++ flat_map (judge_part l.court l.labels) (drop l.calendar-index l.calendars) ≡ l.fn.page ++ flat_map (judge_part l.court l.labels) l.calendars
