use Rattle.std.proofs.Common.{◌≡◌, ◌∙◌, ◌+◌, ◌<◌, ◌++◌, ◌∷◌, ℕ, List, [], ap, length, map, sym, subst, arith, take, take_all}
use Rattle.desk_journal.specs.Words.{batch_of}
use Rattle.row_forms.specs.declared.numbered.NumberedRow.{NumberedRow}
use Rattle.desk_register.specs.Words.{Change, StandsAt, change_as, change_in, note_in}
use Rattle.desk_entries.specs.Review.{changes_by}
use Rattle.desk_entries.specs.Reported.{rows_standing, standing_as}
use Rattle.desk_entries.proofs.ReviewLemmas.{changes_by-more, none_first}
use Rattle.desk_register.proofs.CallerLemmas.{begun_batch, some_first, take_batch}
use Rattle.desk_entries.proofs.ReportedLemmas.{none_standing, rows_standing-more}
use Rattle.desk_entries.proofs.reported.standing_rows.Goals as goal

pub loop-place-init : goal.loop-place-init
loop-place-init c =
    let (first, is) = some_first c.args.entries.now c.requires.some in
    record {
      begun = omega arith;
      stands = subst (StandsAt c.args.under.now c.in_ok-register.register) (sym is) (c.in_ok-register.ensures.stands first);
      rows = c.new-rows.ensures.items ∙ sym (ap (rows_standing c.args.under.now) is ∙ none_standing c.args.under.now first);
      changes = ap (map change_in) c.new-differences.ensures.items ∙ sym (ap (changes_by c.args.under.now) is ∙ none_first c.args.under.now first);
    }

pub loop-place-preserved : goal.loop-place-preserved
loop-place-preserved c =
    let kept : List (List ℕ) = batch_of (take c.loop-place.place c.args.entries.now) in
    let entry : List ℕ = c.index-entries-place.result.items in
    let more : batch_of (take (c.loop-place.place + 1) c.args.entries.now) ≡ kept ++ entry ∷ [] = take_batch c.args.entries.now c.loop-place.place c.index-entries-place.result c.loop-place-test.true c.index-entries-place.is in
    let begun : 0 < length kept = begun_batch c.args.entries.now c.loop-place.place c.loop-place.invariant.begun c.loop-place-test.true in
    let taken : kept ++ c.deref-in-loop-place.result.now ∷ [] ≡ batch_of (take (c.loop-place.place + 1) c.args.entries.now) = ap (λ (e : List ℕ). kept ++ e ∷ []) c.deref-in-loop-place.ensures.value ∙ sym (take_batch c.args.entries.now c.loop-place.place c.index-entries-place-in-loop-place.result c.loop-place-test.true c.index-entries-place-in-loop-place.is) in
    let read : kept ++ c.deref.result.now ∷ [] ≡ batch_of (take (c.loop-place.place + 1) c.args.entries.now) = ap (λ (e : List ℕ). kept ++ e ∷ []) c.deref.ensures.value ∙ sym more in
    record {
      begun = omega arith;
      stands = subst (StandsAt c.args.under.now c.decide_entry.new.register) taken (c.in_ok-decide_entry.ensures.stands kept c.loop-place.invariant.stands);
      rows = c.in_ok-push_standing.ensures kept c.loop-place.invariant.stands
          ∙ ap (λ (l : List NumberedRow). l ++ standing_as (note_in c.deref.result.now) c.args.under.now kept c.deref.result.now) c.loop-place.invariant.rows
          ∙ sym (rows_standing-more c.args.under.now kept c.deref.result.now begun)
          ∙ ap (rows_standing c.args.under.now) read;
      changes = c.in_ok-decide_entry.ensures.changes kept c.loop-place.invariant.stands
          ∙ ap (λ (l : List Change). l ++ change_as (note_in c.deref-in-loop-place.result.now) c.args.under.now kept c.deref-in-loop-place.result.now) c.loop-place.invariant.changes
          ∙ sym (changes_by-more c.args.under.now kept c.deref-in-loop-place.result.now begun)
          ∙ ap (changes_by c.args.under.now) taken;
    }

pub returns-clause-called : goal.returns-clause-called
returns-clause-called c =
    let whole : batch_of (take c.loop-place.place c.args.entries.now) ≡ batch_of c.args.entries.now = ap batch_of (take_all c.loop-place.place c.args.entries.now (omega (arith, c.loop-place-test.false))) in
    c.into_called-called.ensures c.args.under.now (batch_of c.args.entries.now) (subst (StandsAt c.args.under.now c.loop-place.register) whole c.loop-place.invariant.stands)
