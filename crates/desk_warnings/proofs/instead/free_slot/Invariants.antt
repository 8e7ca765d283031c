use Rattle.std.proofs.Common.{◌≡◌, ◌+◌, ◌≤◌}
use Rattle.docket_core.specs.Words.{parts_held}
use Rattle.desk_warnings.proofs.InsteadLemmas.{free_from}
use Rattle.desk_warnings.proofs.instead.free_slot.Given as goal

-- what is left to search gives the answer that the whole search gives
abbrev pub invariant-loop-slot : goal.invariant-loop-slot
invariant-loop-slot l = record {
  within : l.slot ≤ 96;
  same : free_from l.docket.setup (parts_held l.docket) l.command l.slot ≡ free_from l.docket.setup (parts_held l.docket) l.command (l.first + 1);
}
