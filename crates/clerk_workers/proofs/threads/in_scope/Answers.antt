use Rattle.clerk_workers.proofs.WorkerLemmas.{worked_ready}
use Rattle.clerk_workers.proofs.threads.in_scope.Goals as goal

pub returns-in_default : goal.returns-in_default
returns-in_default g c = worked_ready g.K.Notes.hold g.L.NamesOffice.setup c.args.rows.now c.args.workers.items c.requires
