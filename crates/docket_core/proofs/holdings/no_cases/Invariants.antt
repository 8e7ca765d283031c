use Rattle.std.proofs.Common.{◌≡◌, None, All, length}
use Rattle.docket_core.proofs.holdings.no_cases.Given as goal

abbrev pub invariant-loop-case : goal.invariant-loop-case
invariant-loop-case l = record {
  count : length l.cases.items ≡ l._case;
  none : All (λ c. c ≡ None) l.cases.items;
}
