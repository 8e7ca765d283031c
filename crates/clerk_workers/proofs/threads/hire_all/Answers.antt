use Rattle.std.proofs.Common.{◌≡◌, ◌++◌, ◌∷◌, [], ◌∙◌, List, All, ap, sym, subst, arith}
use Rattle.clerk_workers.specs.Workers.{AreWorked, WorkerView, HiredView, begun_at}
use Rattle.clerk_workers.proofs.WorkerLemmas.{all_push, begun_more, others_ready, worked_push, worked_ready}
use Rattle.clerk_workers.proofs.threads.hire_all.Goals as goal

pub loop-worker-preserved : goal.loop-worker-preserved
loop-worker-preserved g c =
    let inv = c.loop-worker.invariant in
    let popped : c.loop-worker.workers.items ≡ c.pop.new.self.items ++ c.in-Some.worker ∷ [] = c.in-Some.ensures.items in
    let hired : c.in-Ok.clerk ≡ record { worker = c.in-Some.worker; rows = c.args.rows.now } = c.in-Ok.ensures.hired in
    let at : c.in-Ok.clerk.worker ≡ c.in-Some.worker = ap (λ (h : HiredView _). h.worker) hired in
    let now = c.push_reserved.ensures.items in
    let step : c.loop-worker.workers.items ++ begun_at c.loop-worker.hired.items ≡ c.pop.new.self.items ++ begun_at c.push_reserved.new.self.items =
    ap (λ (ds : List (WorkerView _)). ds ++ begun_at c.loop-worker.hired.items) popped ∙ (ap (λ (w : WorkerView _). (c.pop.new.self.items ++ w ∷ []) ++ begun_at c.loop-worker.hired.items) (sym at) ∙ (sym (begun_more c.pop.new.self.items c.loop-worker.hired.items c.in-Ok.clerk) ∙ ap (λ (hs : List (HiredView _)). c.pop.new.self.items ++ begun_at hs) (sym now))) in
    let Q : List (HiredView _) → Type 0 = λ hs. All (λ (h : HiredView _). h.rows ≡ c.args.rows.now) hs in
    record {
      all = inv.all ∙ step;
      ready = others_ready g.K.Notes.hold c.loop-worker.workers.items c.pop.new.self.items c.in-Some.worker popped inv.ready;
      same_rows = subst Q (sym now) (all_push (λ (h : HiredView _). h.rows ≡ c.args.rows.now) c.loop-worker.hired.items c.in-Ok.clerk inv.same_rows (ap (λ (h : HiredView _). h.rows) hired));
      room = omega (arith, inv.room, c.in-Some.ensures.cases, c.push_reserved.ensures.len, c.push_reserved.ensures.capacity);
      space = omega (arith, inv.space, c.in-Some.ensures.cases, c.push_reserved.ensures.len, c.pop.ensures.capacity);
    }

pub returns-in-Err-clause-way : goal.returns-in-Err-clause-way
returns-in-Err-clause-way g c =
    let hold = g.K.Notes.hold in
    let setup = g.L.NamesOffice.setup in
    let rows = c.args.rows.now in
    let inv = c.loop-worker.invariant in
    let popped : c.loop-worker.workers.items ≡ c.pop.new.self.items ++ c.in-Some.worker ∷ [] = c.in-Some.ensures.items in
    let left = others_ready hold c.loop-worker.workers.items c.pop.new.self.items c.in-Some.worker popped inv.ready in
    let worked : AreWorked hold setup rows (c.pop.new.self.items ++ c.in-Some.worker ∷ []) (c.pop.new.self.items ++ c.in-Err.worker ∷ []) =
    worked_push hold setup rows c.pop.new.self.items c.pop.new.self.items c.in-Some.worker c.in-Err.worker (worked_ready hold setup rows c.pop.new.self.items left) c.in-Err.ensures.refused in
    let P : List (WorkerView _) → Type 0 = λ ds. AreWorked hold setup rows (c.pop.new.self.items ++ c.in-Some.worker ∷ []) ds in
    record {
      others = c.pop.new.self.items ++ c.in-Some.worker ∷ [];
      worked = subst P (sym c.push_reserved-in-Err.ensures.items) worked;
      all = inv.all ∙ ap (λ (ds : List (WorkerView _)). ds ++ begun_at c.loop-worker.hired.items) popped;
      same_rows = inv.same_rows;
    }
