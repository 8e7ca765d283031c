use Rattle.std.proofs.Common.{◌≡◌, ◌+◌, ◌++◌, ◌≤◌, All, length, vec_capacity}
use Rattle.clerk_workers.specs.Workers.{HiredView, IsReady, begun_at}
use Rattle.clerk_workers.proofs.threads.hire_all.Given as goal

-- the last workers are hired, and the others are ready
abbrev pub invariant-loop-worker : goal.invariant-loop-worker
invariant-loop-worker g l = record {
  all : l.fn.workers.items ≡ l.workers.items ++ begun_at l.hired.items;
  ready : All (IsReady g.K.Notes.hold) l.workers.items;
  same_rows : All (λ (h : HiredView _). h.rows ≡ l.rows) l.hired.items;
  room : length l.workers.items + length l.hired.items ≤ vec_capacity l.hired;
  space : length l.workers.items + length l.hired.items ≤ vec_capacity l.workers;
}

abbrev pub decreases-loop-worker : goal.decreases-loop-worker
decreases-loop-worker g l = length l.workers.items
