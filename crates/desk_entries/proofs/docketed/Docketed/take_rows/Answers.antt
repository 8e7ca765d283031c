use Rattle.std.proofs.Common.{◌≡◌, ◌∙◌, ◌+◌, ◌++◌, ◌∷◌, ℕ, List, [], ap, append-nil, arith, drop, subst, sym, take}
use Rattle.desk_journal.specs.Words.{batch_of}
use Rattle.desk_register.specs.Words.{IsHistory, note_in}
use Rattle.desk_entries.specs.Docketed.{HasDocketFault, IsDocketed}
use Rattle.desk_entries.proofs.FaultyLemmas.{faulty_so}
use Rattle.desk_entries.proofs.FollowLemmas.{parts_after, row_at, then_more}
use Rattle.desk_register.proofs.CallerLemmas.{history_more}
use Rattle.desk_entries.proofs.docketed.Docketed.take_rows.Goals as goal

pub loop-place-init : goal.loop-place-init
loop-place-init c = record {
  within = omega arith;
  count = omega arith;
  is = λ before d. subst (IsDocketed c.args.self.now) (sym (append-nil before)) d;
  history = λ before d history. subst IsHistory (sym (append-nil before)) history;
}

pub loop-place-preserved : goal.loop-place-preserved
loop-place-preserved c =
    let place : ℕ = c.loop-place.place in
    let entry : List ℕ = c.deref.result.now in
    let then : (before : List (List ℕ)) → before ++ batch_of (take (place + 1) c.args.more.now) ≡ (before ++ batch_of (take place c.args.more.now)) ++ entry ∷ [] =
    λ before. then_more before c.args.more.now place c.index-more-place.result c.loop-place-test.true c.index-more-place.is ∙ ap (λ (e : List ℕ). (before ++ batch_of (take place c.args.more.now)) ++ e ∷ []) (sym c.deref.ensures.value) in
    record {
      within = omega (arith, c.loop-place-test.true);
      count = omega (arith, c.in-Ok.ensures.count, c.loop-place.invariant.count);
      is = λ before d. subst (IsDocketed c.retake.new.self) (sym (then before)) (c.in-Ok.ensures.docketed (before ++ batch_of (take place c.args.more.now)) (c.loop-place.invariant.is before d));
      history = λ before d history. subst IsHistory (sym (then before))
          (history_more (before ++ batch_of (take place c.args.more.now)) entry (c.loop-place.invariant.history before d history) (c.in-Ok.ensures.follows (before ++ batch_of (take place c.args.more.now)) (c.loop-place.invariant.is before d)));
    }

pub returns-in-Err-clause-cause : goal.returns-in-Err-clause-cause
returns-in-Err-clause-cause c = λ before d.
    let place : ℕ = c.loop-place.place in
    let kept : List (List ℕ) = before ++ batch_of (take place c.args.more.now) in
    let entry : List ℕ = c.deref.result.now in
    let parts : before ++ batch_of c.args.more.now ≡ kept ++ entry ∷ batch_of (drop (place + 1) c.args.more.now) =
    parts_after before c.args.more.now place c.index-more-place.result c.loop-place-test.true c.index-more-place.is ∙ ap (λ (e : List ℕ). kept ++ e ∷ batch_of (drop (place + 1) c.args.more.now)) (sym c.deref.ensures.value) in
    subst (λ (l : List (List ℕ)). HasDocketFault l c.in-Err.fault) (sym parts)
    (faulty_so (λ b. Unit {0}) kept (batch_of (drop (place + 1) c.args.more.now)) entry c.in-Err.fault tt (c.in-Err.ensures.cause kept (c.loop-place.invariant.is before d)))

pub retake-requires-clause-row : goal.retake-requires-clause-row
retake-requires-clause-row c = ap note_in c.deref.ensures.value ∙ row_at c.args.more.now c.loop-place.place c.index-more-place.result c.loop-place-test.true c.index-more-place.is c.requires.rows
