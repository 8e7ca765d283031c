use Rattle.std.proofs.Common.{◌≡◌, ◌∙◌, ◌+◌, ◌++◌, ◌∷◌, ℕ, List, [], ap, drop, length, sym, subst, arith, take}
use Rattle.desk_journal.specs.Words.{batch_of}
use Rattle.desk_entries.specs.Docketed.{HasFault}
use Rattle.desk_entries.specs.Inside.Walk.{IsWalked}
use Rattle.desk_entries.proofs.FaultyLemmas.{faulty_so}
use Rattle.desk_register.proofs.CallerLemmas.{length_batch, next_number-few, parts_at, take_batch}
use Rattle.std.proofs.lemmas.List.{length-take-le}
use Rattle.desk_entries.proofs.what_stands.Walk.take_later.Goals as goal

pub returns-in-Err-clause-cause : goal.returns-in-Err-clause-cause
returns-in-Err-clause-cause c =
    let place : ℕ = c.loop-place.place in
    let kept : List (List ℕ) = batch_of (take place c.args.entries.now) in
    let entry : List ℕ = c.deref.result.now in
    let then : batch_of (take (place + 1) c.args.entries.now) ≡ kept ++ entry ∷ [] = take_batch c.args.entries.now place c.index-entries-place.result c.loop-place-test.true c.index-entries-place.is ∙ ap (λ (e : List ℕ). kept ++ e ∷ []) (sym c.deref.ensures.value) in
    let counted : place + 1 ≡ length kept + 1 = omega (arith, length_batch (take place c.args.entries.now), length-take-le place c.args.entries.now (omega (arith, c.loop-place-test.true))) in
    subst (λ (l : List (List ℕ)). HasFault (λ before. Unit {0}) l c.in-Err.fault) (sym (parts_at c.args.entries.now place entry then))
    (faulty_so (λ before. Unit {0}) kept (batch_of (drop (place + 1) c.args.entries.now)) entry c.in-Err.fault tt (c.in-Err.ensures.cause kept c.loop-place.invariant.is counted))

pub loop-place-preserved : goal.loop-place-preserved
loop-place-preserved c =
    let place : ℕ = c.loop-place.place in
    let kept : List (List ℕ) = batch_of (take place c.args.entries.now) in
    let then : batch_of (take (place + 1) c.args.entries.now) ≡ kept ++ c.deref.result.now ∷ [] = take_batch c.args.entries.now place c.index-entries-place.result c.loop-place-test.true c.index-entries-place.is ∙ ap (λ (e : List ℕ). kept ++ e ∷ []) (sym c.deref.ensures.value) in
    record {
      begun = omega arith;
      is = subst (IsWalked c.take.new.self) (sym then) (c.in-Ok.ensures.walked kept c.loop-place.invariant.is);
    }

pub take-requires : goal.take-requires
take-requires c =
    let place : ℕ = c.loop-place.place in
    let kept : List (List ℕ) = batch_of (take place c.args.entries.now) in
    let is = c.loop-place.invariant.is in
    omega (arith, is.rows, next_number-few kept is.begun, length_batch (take place c.args.entries.now), length-take-le place c.args.entries.now (omega (arith, c.loop-place-test.true)), c.loop-place-test.true, c.requires.few)
