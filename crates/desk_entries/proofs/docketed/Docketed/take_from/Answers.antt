use Rattle.std.proofs.Common.{◌≡◌, ◌∙◌, ◌+◌, ◌++◌, ◌∷◌, ℕ, List, [], ap, drop, sym, subst, arith, take}
use Rattle.desk_journal.specs.Words.{batch_of}
use Rattle.desk_entries.specs.Docketed.{AreHistory, HasFault, IsDocketed}
use Rattle.desk_register.specs.Words.{IsHistory}
use Rattle.desk_entries.proofs.FaultyLemmas.{faulty_so}
use Rattle.desk_register.proofs.CallerLemmas.{history_more, parts_at, take_batch}
use Rattle.desk_entries.proofs.docketed.Docketed.take_from.Goals as goal

pub returns-in-Err-clause-cause : goal.returns-in-Err-clause-cause
returns-in-Err-clause-cause c =
    let place : ℕ = c.loop-place.place in
    let kept : List (List ℕ) = batch_of (take place c.args.entries.now) in
    let entry : List ℕ = c.deref.result.now in
    let then : batch_of (take (place + 1) c.args.entries.now) ≡ kept ++ entry ∷ [] = take_batch c.args.entries.now place c.index-entries-place.result c.loop-place-test.true c.index-entries-place.is ∙ ap (λ (e : List ℕ). kept ++ e ∷ []) (sym c.deref.ensures.value) in
    subst (λ (l : List (List ℕ)). HasFault (λ before. Unit {0}) l c.in-Err.fault) (sym (parts_at c.args.entries.now place entry then))
    (faulty_so (λ before. Unit {0}) kept (batch_of (drop (place + 1) c.args.entries.now)) entry c.in-Err.fault tt (c.in-Err.ensures.cause kept (ap batch_of c.split_at.ensures.front ∙ then) c.loop-place.invariant.is))

pub returns-in-Err-clause-no_history : goal.returns-in-Err-clause-no_history
returns-in-Err-clause-no_history c = λ first.
    let place : ℕ = c.loop-place.place in
    let kept : List (List ℕ) = batch_of (take place c.args.entries.now) in
    let entry : List ℕ = c.deref.result.now in
    let then : batch_of (take (place + 1) c.args.entries.now) ≡ kept ++ entry ∷ [] = take_batch c.args.entries.now place c.index-entries-place.result c.loop-place-test.true c.index-entries-place.is ∙ ap (λ (e : List ℕ). kept ++ e ∷ []) (sym c.deref.ensures.value) in
    subst (λ (l : List (List ℕ)). HasFault AreHistory l c.in-Err.fault) (sym (parts_at c.args.entries.now place entry then))
    (faulty_so AreHistory kept (batch_of (drop (place + 1) c.args.entries.now)) entry c.in-Err.fault (λ begun. c.loop-place.invariant.history first) (c.in-Err.ensures.cause kept (ap batch_of c.split_at.ensures.front ∙ then) c.loop-place.invariant.is))

pub loop-place-init : goal.loop-place-init
loop-place-init c = record { begun = omega (arith, c.requires.some); within = c.requires.within; is = c.requires.begun; history = λ first. first }

pub loop-place-preserved : goal.loop-place-preserved
loop-place-preserved c =
    let place : ℕ = c.loop-place.place in
    let kept : List (List ℕ) = batch_of (take place c.args.entries.now) in
    let entry : List ℕ = c.deref.result.now in
    let then : batch_of (take (place + 1) c.args.entries.now) ≡ kept ++ entry ∷ [] = take_batch c.args.entries.now place c.index-entries-place.result c.loop-place-test.true c.index-entries-place.is ∙ ap (λ (e : List ℕ). kept ++ e ∷ []) (sym c.deref.ensures.value) in
    record {
      begun = omega arith;
      within = omega (arith, c.loop-place-test.true);
      is = subst (IsDocketed c.take_entry.new.self) (sym then) (c.in-Ok.ensures.docketed kept (ap batch_of c.split_at.ensures.front ∙ then) c.loop-place.invariant.is);
      history = λ first. subst IsHistory (sym then) (history_more kept entry (c.loop-place.invariant.history first) (c.in-Ok.ensures.follows kept c.loop-place.invariant.is));
    }
