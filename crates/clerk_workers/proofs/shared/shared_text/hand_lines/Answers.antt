use Rattle.std.proofs.Common.{◌≡◌, ◌-◌, ◌∙◌, ap}
use Rattle.clerk_workers.specs.Shared.Merged.{merged_lines}
use Rattle.clerk_workers.proofs.SharedLemmas.HandedLemmas.{all_handed, more_handed}
use Rattle.clerk_workers.proofs.SharedLemmas.MergedTextLemmas.{texts_in}
use Rattle.clerk_workers.proofs.shared.shared_text.hand_lines.Goals as goal

pub loop-index-preserved : goal.loop-index-preserved
loop-index-preserved g c =
    let row = c.index-rows-index.result in
    let left = texts_in c.loop-index.lines.items in
    let whole = merged_lines 1 c.args.rows.now (texts_in c.args.lines.now.items) in
    let place : c.saturating_sub.result ≡ row.clerk - 1 = c.saturating_sub.ensures ∙ ap (λ n. n - 1) c.from.ensures in
    more_handed g.W.Write.contents c.args.writer.now c.args.gathered.now c.loop-index.writer c.loop-index.gathered c.loop-index.index c.args.rows.now left whole c.loop-index.invariant
    row c.saturating_sub.result c.hand_numbers.new.writer c.hand_numbers.new.gathered c.hand_answer.new.writer c.hand_answer.new.gathered (texts_in c.hand_answer.new.lines.items)
    c.loop-index-test.true c.index-rows-index.is place c.hand_numbers.ensures c.hand_answer.ensures.text c.hand_answer.ensures.left

pub returns : goal.returns
returns g c =
    let whole = merged_lines 1 c.args.rows.now (texts_in c.args.lines.now.items) in
    all_handed g.W.Write.contents c.args.writer.now c.args.gathered.now c.loop-index.writer c.loop-index.gathered c.loop-index.index c.args.rows.now (texts_in c.loop-index.lines.items) whole c.loop-index.invariant c.loop-index-test.false
