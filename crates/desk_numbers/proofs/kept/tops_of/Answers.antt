use Rattle.std.proofs.Common.{◌∙◌, ◌+◌, ap, drop, max, sym}
use Rattle.std.specs.Prelude.{slice_index_or}
use Rattle.desk_numbers.specs.Kept.{after_given}
use Rattle.desk_numbers.specs.Tops.{slot_of}
use Rattle.desk_numbers.proofs.NumberLemmas.{given_all, given_on}
use Rattle.desk_numbers.proofs.TopLemmas.{none_noted}
use Rattle.desk_numbers.proofs.kept.tops_of.Goals as goal

pub rows-init : goal.rows-init
rows-init c = λ case counted. none_noted c.new-tops.result c.args.rows.now case counted c.new-tops.ensures

pub rows-preserved : goal.rows-preserved
rows-preserved c = λ case counted.
    let list = c.args.rows.now in
    let place = c.rows.row-index in
    ap (λ n. max n (after_given (drop (place + 1) list) case counted)) (c.in_ok-note.ensures case counted)
    ∙ given_on list place _ case counted (slice_index_or c.rows.tops (slot_of case counted) 0) c.rows-test.true ∙ c.rows.invariant case counted

pub returns : goal.returns
returns c = λ case counted.
    sym (given_all c.args.rows.now c.rows.row-index case counted (slice_index_or c.rows.tops (slot_of case counted) 0) c.rows-test.false) ∙ c.rows.invariant case counted
