use Rattle.std.proofs.Common.{◌∙◌, string_bytes, sym}
use Rattle.report_memo.specs.Notes.{notes_text}
use Rattle.report_memo.specs.Replies.{AreReasonsWith}
use Rattle.report_memo.specs.Texts.{Is}
use Rattle.report_memo.proofs.ReplyLemmas.{none_told, same_reply}
use Rattle.report_memo.proofs.TextLemmas.{adds_text, adds_then, on_ok}
use Rattle.report_memo.proofs.replies.push_told.Goals as goal

pub returns-in_ok-push_reasons_told-in-Some : goal.returns-in_ok-push_reasons_told-in-Some
returns-in_ok-push_reasons_told-in-Some c docketed reply answered is =
    let same = same_reply reply c.in-Some.reply (sym is ∙ c.in-Some.is) in
    let court = c.args.court.now in
    let work = c.args.work.now in
    let told = AreReasonsWith court c.args.labels.now docketed work reply in
    let notes = notes_text court c.args.labels.now docketed work reply in
    on_ok c.push_notes.result (λ appended. adds_then told (Is notes) _ _ (string_bytes c.push_notes.new.text) (rw same at c.in_ok-push_reasons_told-in-Some.ensures docketed answered) (adds_text notes _ _ appended)) (rw same at c.push_notes.ensures docketed answered.holds)

pub returns-in-None : goal.returns-in-None
returns-in-None c docketed reply answered is =
    none_told c.args.court.now c.args.labels.now docketed c.args.work.now reply (string_bytes c.args.text.now) (sym is ∙ c.in-None.is)
