use Rattle.std.proofs.Common.{◌≡◌, ◌++◌, ◌∷◌, [], ◌∙◌, List, All, ap, refl, sym, subst, arith}
use Rattle.clerk_seats.specs.Words.{SeatView}
use Rattle.clerk_workers.specs.declared.progress.Progress.TheVariants.{Waiting}
use Rattle.clerk_workers.specs.Workers.{WorkerView, IsReady, seats_at}
use Rattle.clerk_workers.proofs.WorkerLemmas.{all_but_last, all_push, turned_more}
use Rattle.clerk_workers.proofs.workers.seat_all.Goals as goal

pub loop-seat-preserved : goal.loop-seat-preserved
loop-seat-preserved g c =
    let hold = g.K.Notes.hold in
    let inv = c.loop-seat.invariant in
    let worker : WorkerView _ = record { seat = c.in-Some.seat; notes = c.in-Some-pop.notes; progress = Waiting } in
    let pushed : c.push_reserved.new.self.items ≡ c.loop-seat.workers.items ++ worker ∷ [] = c.push_reserved.ensures.items in
    let kept = all_but_last (λ n. hold n []) c.pop-in-Some.new.self.items c.in-Some-pop.notes (subst (All (λ n. hold n [])) c.in-Some-pop.ensures.items inv.empty) in
    let P : List (WorkerView _) → Type 0 = λ ds. All (IsReady hold) ds in
    record {
      all = inv.all ∙ (ap (λ (ss : List SeatView). ss ++ seats_at c.loop-seat.workers.items) c.in-Some.ensures.items ∙ (sym (turned_more (λ (w : WorkerView _). w.seat) c.pop.new.self.items c.loop-seat.workers.items worker) ∙ ap (λ (ds : List (WorkerView _)). c.pop.new.self.items ++ seats_at ds) (sym pushed)));
      ready = subst P (sym pushed) (all_push (IsReady hold) c.loop-seat.workers.items worker inv.ready (record { empty = kept.1; waiting = refl }));
      as_many = omega (arith, inv.as_many, c.in-Some.ensures.cases, c.in-Some-pop.ensures.cases);
      empty = kept.0;
      room = omega (arith, inv.room, c.in-Some.ensures.cases, c.push_reserved.ensures.len, c.push_reserved.ensures.capacity);
      space_for_seats = omega (arith, inv.space_for_seats, c.in-Some.ensures.cases, c.push_reserved.ensures.len, c.pop.ensures.capacity);
      space_for_notes = omega (arith, inv.space_for_notes, c.in-Some.ensures.cases, c.push_reserved.ensures.len, c.pop-in-Some.ensures.capacity);
    }
