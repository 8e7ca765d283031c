use Rattle.std.proofs.Common.{◌≡◌, ◌≤◌, ◌+◌, ◌++◌, ◌∙◌, Some, drop, length, string_bytes, append_assoc, append-nil, sym, ap, arith}
use Rattle.std.proofs.lemmas.List.{at_drop_more, at_drop_all}
use Rattle.report_texts.specs.Due.{day_line_if_new, lines_after}
use Rattle.report_texts.specs.Items.{item_lines}
use Rattle.report_texts.proofs.due.push_items.Goals as goal

pub loop-item-preserved : goal.loop-item-preserved
unfolding lines_after
loop-item-preserved c =
    let court = c.args.court.now in
    let labels = c.args.labels.now in
    let items = c.args.items.now in
    let i = c.loop-item.item-index in
    let item = c.item-item.result in
    let text = string_bytes c.loop-item.text in
    let day = day_line_if_new c.loop-item.before item.day in
    let line = item_lines court labels item in
    let later = lines_after court labels (Some item.day) (drop (i + 1) items) in
    let step : lines_after court labels c.loop-item.before (drop i items) ≡ day ++ line ++ later =
    at_drop_more (lines_after court labels c.loop-item.before) items i item c.loop-item-test.true
    ∙ ap (λ x. day_line_if_new c.loop-item.before x.day ++ item_lines court labels x ++ lines_after court labels (Some x.day) (drop (i + 1) items)) (sym c.item-item.is) in
    rw (c.in_ok-push_item_lines.ensures, c.in_ok-push_day_if_new.ensures)
    (append_assoc (text ++ day) line later ∙ append_assoc text day (line ++ later) ∙ ap (λ s. text ++ s) (sym (append_assoc day line later) ∙ sym step) ∙ c.loop-item.invariant)

pub returns : goal.returns
unfolding lines_after
returns c =
    let past : length c.args.items.now ≤ c.loop-item.item-index = omega (arith, c.loop-item-test.false) in
    let none = at_drop_all (lines_after c.args.court.now c.args.labels.now c.loop-item.before) c.args.items.now c.loop-item.item-index past in
    sym (append-nil _) ∙ rw none at c.loop-item.invariant
