use Rattle.report_memo.specs.Answer.{IsAnswer}
use Rattle.report_texts.specs.Words.{LabelsView, labels_of}
use Rattle.report_memo.proofs.report.memo_of.Goals as goal

pub returns-in-Text : goal.returns-in-Text
returns-in-Text c =
    let labels : LabelsView = labels_of c.args.file.now c.args.cases.now.named c.args.moved.now c.args.called.now in
    let answer : IsAnswer c.args.asked.now c.args.court.now labels c.args.rows.now c.as_str.result.now = rw c.as_str.ensures.value (rw c.in-Text.is at c.in_ok-found.ensures) in
    c.written.ensures labels answer
