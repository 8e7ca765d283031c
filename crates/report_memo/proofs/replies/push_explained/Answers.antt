use Rattle.std.proofs.Common.{◌≡◌, ◌∙◌, ◌++◌, Some, None, codes, string_bytes, ap, sym}
use Rattle.desk_numbers.specs.Words.{numbered}
use Rattle.office_texts.specs.Run.Words.{row_numbers}
use Rattle.office_texts.specs.Named.Words.{named_line_of}
use Rattle.report_memo.specs.declared.detail.Detail.TheVariants.{Reasons}
use Rattle.report_texts.specs.Words.{LabelsView}
use Rattle.report_memo.specs.Reasons.{days_docketed}
use Rattle.report_memo.specs.Replies.{IsTold, sheet_replied}
use Rattle.report_memo.specs.Sheets.{IsSheet}
use Rattle.report_memo.specs.Texts.{Is}
use Rattle.report_memo.proofs.TextLemmas.{adds_text, adds_then, on_ok}
use Rattle.report_memo.proofs.replies.push_explained.Goals as goal

pub returns-in_ok-push_sheet_front-in-Some : goal.returns-in_ok-push_sheet_front-in-Some
returns-in_ok-push_sheet_front-in-Some c docketed answered =
    let labels = c.args.labels.now in
    let n = c.args.row.now in
    let moved : c.labels.inside.moved.now ≡ labels.moved = ap (λ (l : LabelsView). l.moved) c.labels.view_is in
    let found : sheet_replied (numbered labels.moved n.row.work c.args.reply) ≡ Some c.in-Some.sheet.now = sym (ap sheet_replied (rw moved at c.number_reply-numbered.ensures)) ∙ sym c.in-Some.ensures in
    let front = row_numbers n.number n.row.clerk ++ codes "sheet\n" in
    rw found (on_ok c.push_sheet.result (λ added. adds_then (Is front) (IsSheet c.args.court.now labels (days_docketed labels docketed) Reasons c.in-Some.sheet.now) (string_bytes c.args.text.now) _ (string_bytes c.push_sheet.new.text) (adds_text front _ _ c.in_ok-push_sheet_front-in-Some.ensures) added) (rw answered.read at c.push_sheet.ensures))

pub returns-in_ok-push_named_line-in-None : goal.returns-in_ok-push_named_line-in-None
returns-in_ok-push_named_line-in-None c docketed answered =
    let court = c.args.court.now in
    let labels = c.args.labels.now in
    let n = c.args.row.now in
    let work = n.row.work in
    let reply = c.args.reply in
    let told = IsTold court labels docketed work reply in
    let line = named_line_of court labels.cases n.number n.row.clerk (numbered labels.moved work reply) in
    let moved : c.labels.inside.moved.now ≡ labels.moved = ap (λ (l : LabelsView). l.moved) c.labels.view_is in
    let cases : c.labels.inside.cases.now.named ≡ labels.cases = ap (λ (l : LabelsView). l.cases) c.labels.view_is in
    let numbers : c.number_reply-numbered.result ≡ numbered labels.moved work reply = rw moved at c.number_reply-numbered.ensures in
    let none : sheet_replied (numbered labels.moved work reply) ≡ None = sym (ap sheet_replied numbers) ∙ sym c.in-None.ensures in
    rw none (on_ok c.push_told.result (λ added. adds_then (Is line) told (string_bytes c.args.text.now) _ (string_bytes c.push_told.new.text) (adds_text line _ _ (rw (numbers, cases) at c.in_ok-push_named_line-in-None.ensures)) added) (c.push_told.ensures docketed reply answered c.without_list-placed.ensures))
