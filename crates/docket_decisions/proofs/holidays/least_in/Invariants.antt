use Rattle.std.proofs.Common.{◌≡◌, ◌≤◌, length, drop, filter}
use Rattle.docket_decisions.specs.Inside.Holidays.{least_before, sought_test}
use Rattle.docket_decisions.proofs.holidays.least_in.Given as goal

-- the least of the bookings from this place on
abbrev pub invariant-loop-place : goal.invariant-loop-place
invariant-loop-place l = record {
  within : l.place ≤ length l.bookings;
  least : l.least ≡ least_before (filter (sought_test l.sought l.days) (drop l.place l.bookings)) l.fn.other;
}

abbrev pub decreases-loop-place : goal.decreases-loop-place
decreases-loop-place l = l.place
