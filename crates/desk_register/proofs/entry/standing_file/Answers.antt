use Rattle.std.proofs.Common.{◌≡◌, ◌∙◌, ◌+◌, ◌<◌, ◌++◌, ◌∷◌, ℕ, List, [], ap, length, sym, arith, take}
use Rattle.desk_journal.specs.Words.{batch_of}
use Rattle.desk_register.specs.Entries.{later_file, standing_file}
use Rattle.desk_register.proofs.ListLemmas.{begun_batch, file_noted, first_batch, standing_file-file, standing_file-other, standing_first, take_batch}
use Rattle.desk_register.proofs.entry.standing_file.Goals.{in-Some-later_file, in_default-later_file}
use Rattle.desk_register.proofs.entry.standing_file.Goals as goal

pub loop-place-init : goal.loop-place-init
loop-place-init c = record {
  begun = omega arith;
  file = c.as_slice-file.ensures.value ∙ sym (ap standing_file (first_batch c.args.entries.now c.in-Some.first.now (sym c.in-Some.ensures.value)) ∙ standing_first c.in-Some.first.now.items);
}

pub loop-place-preserved : goal.loop-place-preserved
loop-place-preserved c =
    let kept : List (List ℕ) = batch_of (take c.loop-place.place c.args.entries.now) in
    let entry : List ℕ = c.index-entries-place.result.items in
    let more : batch_of (take (c.loop-place.place + 1) c.args.entries.now) ≡ kept ++ entry ∷ [] = take_batch c.args.entries.now c.loop-place.place c.index-entries-place.result c.loop-place-test.true c.index-entries-place.is in
    let begun : 0 < length kept = begun_batch c.args.entries.now c.loop-place.place c.loop-place.invariant.begun c.loop-place-test.true in
    elim c.match-later_file.branch [
      | in-Some-later_file w ↦ record {
        begun = omega arith;
        file = ap (λ t. t.now) w.file-is ∙ sym (standing_file-file kept entry w.in-Some-later_file.later.now begun (file_noted entry w.in-Some-later_file.later.now (ap later_file (sym c.deref.ensures.value) ∙ sym w.in-Some-later_file.ensures))) ∙ ap standing_file (sym more);
      }
      | in_default-later_file w ↦ record {
        begun = omega arith;
        file = ap (λ t. t.now) w.file-is ∙ c.loop-place.invariant.file ∙ sym (standing_file-other kept entry begun (ap later_file (sym c.deref.ensures.value) ∙ sym w.in_default-later_file.ensures)) ∙ ap standing_file (sym more);
      }
    ]
