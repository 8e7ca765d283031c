use Rattle.std.proofs.Common.{◌≡◌, ◌-◌, ◌++◌}
use Rattle.docket_selection.specs.Bookings.{days_of_week}
use Rattle.docket_selection.proofs.bookings.push_days.Given as goal

-- the days so far, and those that are left, are all
abbrev pub invariant-loop-place : goal.invariant-loop-place
invariant-loop-place l = l.days.items ++ days_of_week l.day l.place (l.count - l.place) ≡ l.fn.days.items ++ days_of_week l.day 0 l.count
