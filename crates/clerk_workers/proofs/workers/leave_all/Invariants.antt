use Rattle.std.proofs.Common.{◌≡◌, ◌+◌, ◌++◌, ◌≤◌, length, vec_capacity}
use Rattle.clerk_workers.specs.Workers.{notes_at, tallies_at}
use Rattle.clerk_workers.proofs.workers.leave_all.Given as goal

-- what was collected, and what workers still have, are all
abbrev pub invariant-loop-worker : goal.invariant-loop-worker
invariant-loop-worker g l = record {
  tallies : tallies_at l.fn.workers.items ≡ l.tallies.items ++ tallies_at l.workers.items;
  notes : notes_at l.fn.workers.items ≡ l.notes.items ++ notes_at l.workers.items;
  room_for_tallies : length l.tallies.items + length l.workers.items ≤ vec_capacity l.tallies;
  room_for_notes : length l.notes.items + length l.workers.items ≤ vec_capacity l.notes;
}

abbrev pub decreases-loop-worker : goal.decreases-loop-worker
decreases-loop-worker g l = length l.workers.items
