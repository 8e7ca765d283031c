use Rattle.std.proofs.Common.{string_bytes}
use Rattle.report_memo.specs.Reasons.{AreReasons}
use Rattle.report_memo.specs.Sheets.{first_lines, more_lines}
use Rattle.report_memo.specs.Texts.{Is, Then}
use Rattle.report_memo.proofs.TextLemmas.{adds_text, adds_then, on_ok}
use Rattle.report_memo.proofs.sheets.push_explained.Goals as goal

pub returns : goal.returns
returns c =
    let court = c.args.court.now in
    let deadline = c.args.deadline.now in
    let first = first_lines court.clock c.args.labels.now c.args.sheet.now.case c.args.detail.now deadline in
    let told = AreReasons court c.args.labels.now c.args.days.now deadline.row in
    let more = more_lines court c.args.days.now.here c.args.sheet.now c.args.detail.now deadline in
    let with_more = on_ok c.push_more.result (λ appended. adds_then told (Is more) _ _ (string_bytes c.push_more.new.text) c.in_ok-push_deadline_reasons.ensures (adds_text more _ _ appended)) (rw c.here.ensures at c.push_more.ensures) in
    on_ok c.push_more.result (λ added. adds_then (Is first) (Then told (Is more)) (string_bytes c.args.text.now) _ (string_bytes c.push_more.new.text) (adds_text first _ _ c.in_ok-push_first_lines.ensures) added) with_more
