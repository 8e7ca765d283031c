use Rattle.std.proofs.Common.{◌≡◌, [], All, length}
use Rattle.docket_core.proofs.holdings.no_bookings.Given as goal

abbrev pub invariant-loop-number : goal.invariant-loop-number
invariant-loop-number l = record {
  count : length l.calendars.items ≡ l._number;
  none : All (λ c. c ≡ []) l.calendars.items;
}
