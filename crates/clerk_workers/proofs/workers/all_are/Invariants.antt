use Rattle.std.proofs.Common.{◌≡◌, All, take}
use Rattle.clerk_workers.specs.Workers.{WorkerView}
use Rattle.clerk_workers.proofs.workers.all_are.Given as goal

-- those so far are
abbrev pub invariant-loop-worker : goal.invariant-loop-worker
invariant-loop-worker g l = All (λ (w : WorkerView _). w.progress ≡ l.progress) (take l.worker-index l.workers)
