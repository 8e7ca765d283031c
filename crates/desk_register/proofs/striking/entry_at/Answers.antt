use Rattle.std.proofs.Common.{◌∙◌, ◌+◌, [], ℕ, List, ap, drop, sym, arith}
use Rattle.std.specs.Prelude.{slice_index_or}
use Rattle.desk_journal.specs.Words.{batch_of}
use Rattle.desk_register.specs.Entries.{note_in, rows_among}
use Rattle.desk_register.specs.Striking.{rows_left}
use Rattle.desk_register.proofs.StrikingLemmas.{from_first, is_first, is_later, none_there, on_from}
use Rattle.desk_register.proofs.striking.entry_at.Goals as goal

pub rows-init : goal.rows-init
rows-init c = record { begun = omega arith; there = ap (λ (n : ℕ). slice_index_or (rows_among (batch_of (drop 1 c.args.entries.now))) n []) c.saturating_sub-left.ensures ∙ from_first c.args.entries.now c.args.row }

pub rows-preserved : goal.rows-preserved
rows-preserved c =
    let entry : List ℕ = c.index-entries-place.result.items in
    let later : List (List ℕ) = batch_of (drop (c.rows.place + 1) c.args.entries.now) in
    let here = ap (λ (l : List (List ℕ)). slice_index_or (rows_among l) c.rows.left []) (on_from c.args.entries.now c.rows.place c.index-entries-place.result c.rows-test.true c.index-entries-place.is) in
    let said = ap (λ (e : List ℕ). rows_left (note_in e) c.rows.left) (sym c.as_slice-entry.ensures.value) ∙ sym c.rows_left.ensures ∙ c.in-Some.is in
    record {
      begun = omega arith;
      there = sym (here ∙ is_later entry later c.rows.left c.in-Some.next said) ∙ c.rows.invariant.there;
    }

pub returns-in-None : goal.returns-in-None
returns-in-None c =
    let entry : List ℕ = c.index-entries-place.result.items in
    let later : List (List ℕ) = batch_of (drop (c.rows.place + 1) c.args.entries.now) in
    let here = ap (λ (l : List (List ℕ)). slice_index_or (rows_among l) c.rows.left []) (on_from c.args.entries.now c.rows.place c.index-entries-place.result c.rows-test.true c.index-entries-place.is) in
    let said = ap (λ (e : List ℕ). rows_left (note_in e) c.rows.left) (sym c.as_slice-entry.ensures.value) ∙ sym c.rows_left.ensures ∙ c.in-None.is in
    c.as_slice-entry.ensures.value ∙ sym (here ∙ is_first entry later c.rows.left said) ∙ c.rows.invariant.there

pub returns : goal.returns
returns c = sym (none_there c.args.entries.now c.rows.place c.rows.left c.rows-test.false) ∙ c.rows.invariant.there
