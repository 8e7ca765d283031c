use Rattle.std.proofs.Common.{◌≡◌, ◌++◌, drop}
use Rattle.court_days.proofs.days.dates.Dates.of.Given as goal

-- the dates so far, and the days that are left, are all the days
abbrev pub invariant-loop-day : goal.invariant-loop-day
invariant-loop-day l = l.dates ++ drop l.day-index l.days ≡ l.days
