use Rattle.std.proofs.Common.{◌≡◌, ◌-◌, ◌++◌}
use Rattle.report_page.specs.Weeks.{month_weeks}
use Rattle.report_page.proofs.weeks.push_weeks.Given as goal

-- the weeks so far, and those that are left, are all
abbrev pub invariant-loop-week : goal.invariant-loop-week
invariant-loop-week l = l.page ++ month_weeks l.labels l.bookings l.first l.week (l.count - l.week) ≡ l.fn.page ++ month_weeks l.labels l.bookings l.first 0 l.count
