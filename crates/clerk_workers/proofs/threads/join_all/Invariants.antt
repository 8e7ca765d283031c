use Rattle.std.proofs.Common.{◌+◌, ◌≤◌, List, length, vec_capacity}
use Rattle.row_forms.specs.declared.row.Row.{Row}
use Rattle.clerk_workers.specs.Workers.{AreUnderWay, WorkerView}
use Rattle.clerk_workers.proofs.threads.join_all.Given as goal

-- fewer clerks are still under way
abbrev pub invariant-loop-clerk : goal.invariant-loop-clerk
invariant-loop-clerk g l = record {
  way : (rows : List Row) (start : List (WorkerView _)) → AreUnderWay g.K.Notes.hold g.L.NamesOffice.setup rows start l.fn.workers.items l.fn.hired.items → AreUnderWay g.K.Notes.hold g.L.NamesOffice.setup rows start l.workers.items l.hired.items;
  room : length l.workers.items + length l.hired.items ≤ vec_capacity l.workers;
}

abbrev pub decreases-loop-clerk : goal.decreases-loop-clerk
decreases-loop-clerk g l = length l.hired.items
