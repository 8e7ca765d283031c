use Rattle.std.proofs.Common.{◌≡◌, ◌≤ℤ◌, ◌+ℤ◌, ◌-ℤ◌, pos, unsigned_abs}
use Rattle.court_days.specs.Words.{earliest_day}
use Rattle.desk_warnings.specs.Instead.{can_be_heard}
use Rattle.desk_warnings.proofs.instead.heard_from.Given as goal

-- what is left to search gives the answer that the whole search gives
abbrev pub invariant-search : goal.invariant-search
invariant-search l = record {
  low : l.days.from ≤ℤ l.current;
  same : earliest_day l.days (can_be_heard l.days l.need l.served) l.current ≡ earliest_day l.days (can_be_heard l.days l.need l.served) l.fn.day;
}

abbrev pub decreases-search : goal.decreases-search
decreases-search l = unsigned_abs ((l.days.to +ℤ pos 1) -ℤ l.current)
