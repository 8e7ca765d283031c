use Rattle.std.proofs.Common.{◌≡◌, ◌∙◌, ◌+◌, ◌++◌, ℕ, List, ap, append_assoc, append-nil, arith, drop, sym}
use Rattle.std.specs.Prelude.{Vec}
use Rattle.std.specs.declared.alloc.Global.{Global}
use Rattle.row_forms.specs.declared.numbered.NumberedRow.{NumberedRow}
use Rattle.desk_journal.specs.Words.{batch_of}
use Rattle.desk_register.specs.Words.{note_in, rows_with}
use Rattle.desk_entries.specs.Past.{row_struck_as, rows_struck}
use Rattle.desk_entries.proofs.PastLemmas.{all_struck, later_batch, rows_few, rows_struck-next}
use Rattle.desk_entries.proofs.past.struck_rows.Goals as goal

pub loop-place-init : goal.loop-place-init
loop-place-init c = record {
  begun = omega arith;
  few = omega arith;
  rows = ap (λ (l : List NumberedRow). l ++ rows_struck c.args.under.now c.args.moved.now 1 (batch_of (drop 1 c.args.entries.now))) c.new-rows.ensures.items
      ∙ ap (rows_struck c.args.under.now c.args.moved.now 1) (later_batch c.args.entries.now);
}

pub push_if_row-requires : goal.push_if_row-requires
push_if_row-requires c = record { few = omega (arith, c.loop-place.invariant.few, c.loop-place-test.true, c.requires.few) }

pub loop-place-preserved : goal.loop-place-preserved
loop-place-preserved c =
    let under = c.args.under.now in
    let moved = c.args.moved.now in
    let entries = c.args.entries.now in
    let place = c.loop-place.place in
    let number = c.loop-place.number in
    let entry : List ℕ = c.index-entries-place.result.items in
    let left : List (List ℕ) = batch_of (drop (place + 1) entries) in
    let next : c.in_ok-number.number ≡ rows_with (note_in entry) number = c.in_ok-number.ensures.next ∙ ap (λ (e : List ℕ). rows_with (note_in e) number) c.deref.ensures.value in
    let added : c.push_if_row.new.rows.items ≡ c.loop-place.rows.items ++ row_struck_as (note_in entry) under moved number entry left =
    c.in_ok-number.ensures.rows
    ∙ ap (λ (e : List ℕ). c.loop-place.rows.items ++ row_struck_as (note_in e) under moved number e (batch_of c.split_at.result.1.now)) c.deref.ensures.value
    ∙ ap (λ (l : List (Vec ℕ Global)). c.loop-place.rows.items ++ row_struck_as (note_in entry) under moved number entry (batch_of l)) c.split_at.ensures.back in
    record {
      begun = omega arith;
      few = omega (arith, next, rows_few (note_in entry) number, c.loop-place.invariant.few);
      rows = ap (λ (l : List NumberedRow). l ++ rows_struck under moved c.in_ok-number.number left) added
          ∙ append_assoc c.loop-place.rows.items (row_struck_as (note_in entry) under moved number entry left) (rows_struck under moved c.in_ok-number.number left)
          ∙ ap (λ (l : List NumberedRow). c.loop-place.rows.items ++ l)
          (ap (λ (n : ℕ). row_struck_as (note_in entry) under moved number entry left ++ rows_struck under moved n left) next ∙ sym (rows_struck-next under moved number entries place c.index-entries-place.result c.loop-place-test.true c.index-entries-place.is))
          ∙ c.loop-place.invariant.rows;
    }

pub returns : goal.returns
returns c =
    sym (append-nil c.loop-place.rows.items)
    ∙ ap (λ (l : List NumberedRow). c.loop-place.rows.items ++ l) (sym (all_struck c.args.under.now c.args.moved.now c.loop-place.number c.args.entries.now c.loop-place.place (omega (arith, c.loop-place-test.false))))
    ∙ c.loop-place.invariant.rows
