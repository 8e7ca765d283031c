use Rattle.std.proofs.Common.{◌≡◌, true, unsigned_abs, ◌-ℤ◌}
use Rattle.court_days.specs.Days.{is_covered, is_open}
use Rattle.court_days.specs.Days.Search.{earliest_day}
use Rattle.court_days.proofs.days.Days.earliest.Given as goal

-- what is left to search gives the answer that the whole search gives
abbrev pub invariant-days : goal.invariant-days
invariant-days l = record {
  covered : is_covered l.self l.current ≡ true;
  same : earliest_day l.self (is_open l.self l.direction l.accessible) l.current ≡ earliest_day l.self (is_open l.self l.direction l.accessible) l.fn.start;
}

abbrev pub decreases-days : goal.decreases-days
decreases-days l = unsigned_abs (l.self.to -ℤ l.current)
