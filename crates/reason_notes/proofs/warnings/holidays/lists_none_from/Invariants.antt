use Rattle.std.proofs.Common.{◌≡◌, true, unsigned_abs, ◌-ℤ◌}
use Rattle.court_days.specs.Words.{earliest_day, is_among, is_covered}
use Rattle.reason_notes.proofs.warnings.holidays.lists_none_from.Given as goal

-- what is left to search gives the answer that the whole search gives
abbrev pub invariant-days : goal.invariant-days
invariant-days l = record {
  covered : is_covered l.days l.current ≡ true;
  same : earliest_day l.days (is_among l.days.federal) l.current ≡ earliest_day l.days (is_among l.days.federal) l.fn.start;
}

abbrev pub decreases-days : goal.decreases-days
decreases-days l = unsigned_abs (l.days.to -ℤ l.current)
