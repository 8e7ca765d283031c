use Rattle.std.proofs.Common.{◌≡◌, ◌+◌, ◌++◌, ◌≤◌, length, vec_capacity}
use Rattle.clerk_workers.specs.Workers.{seats_at}
use Rattle.clerk_workers.proofs.workers.unseat_all.Given as goal

-- the seats so far, and those that workers still have, are all
abbrev pub invariant-loop-worker : goal.invariant-loop-worker
invariant-loop-worker g l = record {
  all : l.fn.seats.items ++ seats_at l.fn.workers.items ≡ l.seats.items ++ seats_at l.workers.items;
  room : length l.seats.items + length l.workers.items ≤ vec_capacity l.seats;
}

abbrev pub decreases-loop-worker : goal.decreases-loop-worker
decreases-loop-worker g l = length l.workers.items
