use Rattle.std.proofs.Common.{◌≡◌, ◌∙◌, ◌+◌, ℕ, List, ap, arith, drop, sym}
use Rattle.desk_journal.specs.Words.{batch_of}
use Rattle.desk_register.specs.Words.{note_in, rows_with}
use Rattle.desk_entries.specs.declared.past.Corrected.{Corrected}
use Rattle.desk_entries.specs.Past.{corrected_by, corrected_with}
use Rattle.desk_entries.proofs.PastLemmas.{all_corrected, corrected_more, count_few, later_batch, rows_few}
use Rattle.desk_entries.proofs.past.corrections_in.Goals as goal

pub loop-place-init : goal.loop-place-init
loop-place-init c = record {
  begun = omega arith;
  rows_few = omega arith;
  count_few = omega arith;
  so_far = ap (corrected_by 0 (record { rows_before = 0; count = 0 })) (later_batch c.args.entries.now);
}

pub loop-place-preserved : goal.loop-place-preserved
loop-place-preserved c =
    let rows = c.loop-place.rows in
    let before = c.loop-place.corrected in
    let entries = c.args.entries.now in
    let place = c.loop-place.place in
    let rest : List (List ℕ) = batch_of (drop (place + 1) entries) in
    let counted : c.noted.result.0 ≡ rows_with (note_in c.index-entries-place.result.items) rows = c.noted.ensures.rows ∙ ap (λ (e : List ℕ). rows_with (note_in e) rows) c.deref.ensures.value in
    let corrected : c.noted.result.1 ≡ corrected_with (note_in c.index-entries-place.result.items) rows before = c.noted.ensures.corrected ∙ ap (λ (e : List ℕ). corrected_with (note_in e) rows before) c.deref.ensures.value in
    record {
      begun = omega arith;
      rows_few = omega (arith, counted, rows_few (note_in c.index-entries-place.result.items) rows, c.loop-place.invariant.rows_few);
      count_few = omega (arith, ap (λ (k : Corrected). k.count) corrected, count_few (note_in c.index-entries-place.result.items) rows before, c.loop-place.invariant.count_few);
      so_far = ap (λ (n : ℕ). corrected_by n c.noted.result.1 rest) counted
          ∙ ap (λ (k : Corrected). corrected_by (rows_with (note_in c.index-entries-place.result.items) rows) k rest) corrected
          ∙ sym (corrected_more rows before entries place c.index-entries-place.result c.loop-place-test.true c.index-entries-place.is)
          ∙ c.loop-place.invariant.so_far;
    }

pub returns : goal.returns
returns c = sym (all_corrected c.loop-place.rows c.loop-place.corrected c.args.entries.now c.loop-place.place (omega (arith, c.loop-place-test.false))) ∙ c.loop-place.invariant.so_far
