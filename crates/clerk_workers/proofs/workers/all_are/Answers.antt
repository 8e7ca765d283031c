use Rattle.std.proofs.Common.{◌≡◌, ◌+◌, ◌∙◌, ◌++◌, ◌∷◌, [], All, List, ap, sym, subst, take, take_all, arith}
use Rattle.std.proofs.lemmas.List.{take_more}
use Rattle.clerk_workers.specs.Workers.{WorkerView}
use Rattle.clerk_workers.proofs.WorkerLemmas.{all_push}
use Rattle.clerk_workers.proofs.workers.all_are.Goals as goal

pub loop-worker-preserved : goal.loop-worker-preserved
loop-worker-preserved g c =
    let workers = c.args.workers.now in
    let i = c.loop-worker.worker-index in
    let worker = c.worker-item.result in
    let is : worker.progress ≡ c.args.progress = grind arith in
    let more : take (i + 1) workers ≡ take i workers ++ worker ∷ [] = take_more workers i worker c.loop-worker-test.true ∙ ap (λ (w : WorkerView _). take i workers ++ w ∷ []) (sym c.worker-item.is) in
    let P : List (WorkerView _) → Type 0 = λ ds. All (λ (w : WorkerView _). w.progress ≡ c.args.progress) ds in
    subst P (sym more) (all_push (λ (w : WorkerView _). w.progress ≡ c.args.progress) (take i workers) worker c.loop-worker.invariant is)

pub returns-clause-yes : goal.returns-clause-yes
returns-clause-yes g c _ =
    let workers = c.args.workers.now in
    let P : List (WorkerView _) → Type 0 = λ ds. All (λ (w : WorkerView _). w.progress ≡ c.args.progress) ds in
    subst P (take_all c.loop-worker.worker-index workers (omega (arith, c.loop-worker-test.false))) c.loop-worker.invariant
