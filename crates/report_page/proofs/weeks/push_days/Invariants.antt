use Rattle.std.proofs.Common.{◌≡◌, ◌++◌, drop}
use Rattle.std.specs.List.{flat_map}
use Rattle.report_page.specs.Weeks.{day_cell}
use Rattle.report_page.proofs.weeks.push_days.Given as goal

-- the cells so far, and those of the days that are left, are all
abbrev pub invariant-loop-day : goal.invariant-loop-day
invariant-loop-day l = l.page ++ flat_map (day_cell l.labels l.bookings l.first) (drop l.day-index l.days) ≡ l.fn.page ++ flat_map (day_cell l.labels l.bookings l.first) l.days
