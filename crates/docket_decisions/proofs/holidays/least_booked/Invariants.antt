use Rattle.std.proofs.Common.{◌≡◌, ◌≤◌, ◌-◌, filter, flat_map}
use Rattle.std.specs.List.{range_with_len}
use Rattle.docket_rows.specs.Words.{least}
use Rattle.docket_decisions.specs.Inside.Holidays.{sought_test}
use Rattle.docket_decisions.proofs.holidays.least_booked.Given as goal

-- the least of the bookings of the judges from this one on
abbrev pub invariant-loop-judge : goal.invariant-loop-judge
invariant-loop-judge g l = record {
  within : l.judge ≤ l.rules.judges;
  least : l.least ≡ least (filter (sought_test l.sought l.days) (flat_map (g.S.Sight.parts l.sight).judge (range_with_len l.judge (l.rules.judges - l.judge))));
}

abbrev pub decreases-loop-judge : goal.decreases-loop-judge
decreases-loop-judge g l = l.judge
