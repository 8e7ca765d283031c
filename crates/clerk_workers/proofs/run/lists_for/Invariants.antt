use Rattle.std.proofs.Common.{◌≡◌, [], All, length}
use Rattle.clerk_workers.proofs.run.lists_for.Given as goal

-- an empty list for each seat so far
abbrev pub invariant-loop-seat : goal.invariant-loop-seat
invariant-loop-seat g l = record {
  as_many : length l.lists.items ≡ l.seat-index;
  empty : All (λ list. list.items ≡ []) l.lists.items;
}
