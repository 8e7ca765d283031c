use Rattle.std.proofs.Common.{◌∙◌, ◌++◌, ℕ, List, ap, append-nil, sym}
use Rattle.std.specs.List.{flat_map}
use Rattle.std.proofs.lemmas.List.{take_all}
use Rattle.desk_journal.specs.Words.{batch_of}
use Rattle.row_input.specs.Reading.{next_in_place}
use Rattle.row_input.proofs.RowLemmas.{each_more}
use Rattle.row_input.proofs.reading.push_others.Goals as goal

pub loop-row-init : goal.loop-row-init
loop-row-init c = sym (append-nil c.args.out.now.items)

pub loop-row-preserved : goal.loop-row-preserved
loop-row-preserved c =
    c.in_ok-push_next.ensures
    ∙ each_more (next_in_place c.args.joined c.args.mark.now) c.args.out.now.items c.loop-row.out.items c.args.rows.now c.loop-row.row-index c.row-item.result c.loop-row-test.true c.row-item.is c.loop-row.invariant

pub returns : goal.returns
returns c =
    c.loop-row.invariant
    ∙ ap (λ rows. c.args.out.now.items ++ flat_map (next_in_place c.args.joined c.args.mark.now) (batch_of rows)) (take_all c.loop-row.row-index c.args.rows.now c.loop-row-test.false)
