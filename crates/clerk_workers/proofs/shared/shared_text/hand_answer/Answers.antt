use Rattle.std.proofs.Common.{◌<◌, ◌≤◌, ◌∙◌, [], arith, ap, length, sym}
use Rattle.program_streams.proofs.CallerLemmas.{adds_none, adds_same}
use Rattle.clerk_workers.specs.Shared.Lines.{LinesView}
use Rattle.clerk_workers.specs.Shared.Merged.{first_text, later_texts, next_text}
use Rattle.clerk_workers.proofs.SharedLemmas.MergedTextLemmas.{after_at, next_at, none_at, same_at, texts_in}
use Rattle.clerk_workers.proofs.shared.shared_text.hand_answer.Goals as goal

pub returns-then-place-len-clause-text : goal.returns-then-place-len-clause-text
returns-then-place-len-clause-text g c =
    let lines = c.args.lines.now.items in
    let here = c.index_mut.result.now in
    let lt : c.args.place < length lines = omega (arith, c.if-place-len.true, c.len.ensures) in
    let is = ap (λ (l : LinesView). first_text l.texts) c.index_mut.ensures.value ∙ sym (next_at lines c.args.place here lt) in
    adds_same g.W.Write.contents c.args.writer.now c.args.gathered.now c.hand_next.new.writer c.hand_next.new.gathered (first_text here.texts) (next_text c.args.place (texts_in lines)) is c.hand_next.ensures.text

pub returns-then-place-len-clause-left : goal.returns-then-place-len-clause-left
returns-then-place-len-clause-left g c =
    let lines = c.args.lines.now.items in
    let lt : c.args.place < length lines = omega (arith, c.if-place-len.true, c.len.ensures) in
    after_at lines c.args.place c.index_mut.result.now c.hand_next.new.self lt (c.hand_next.ensures.left ∙ ap (λ (l : LinesView). later_texts l.texts) c.index_mut.ensures.value)

pub returns-else-place-len-clause-text : goal.returns-else-place-len-clause-text
returns-else-place-len-clause-text g c =
    let lines = c.args.lines.now.items in
    let past : length lines ≤ c.args.place = omega (arith, c.if-place-len.false, c.len.ensures) in
    adds_same g.W.Write.contents c.args.writer.now c.args.gathered.now c.args.writer.now c.args.gathered.now [] (next_text c.args.place (texts_in lines)) (sym (none_at lines c.args.place past)) (adds_none g.W.Write.contents c.args.writer.now c.args.gathered.now)

pub returns-else-place-len-clause-left : goal.returns-else-place-len-clause-left
returns-else-place-len-clause-left g c =
    let lines = c.args.lines.now.items in
    same_at lines c.args.place (omega (arith, c.if-place-len.false, c.len.ensures))
