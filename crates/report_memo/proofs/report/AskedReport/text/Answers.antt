use Rattle.std.proofs.Common.{◌≡◌, ◌∙◌, [], ap, refl}
use Rattle.std.proofs.lemmas.Result.{IfOk-weaker}
use Rattle.program_runs.specs.Words.{input_checked}
use Rattle.row_forms.specs.Words.{numbered_from}
use Rattle.report_memo.specs.Answer.{IsAnswerOf, IsMissing, IsMissingOf, IsWritten}
use Rattle.report_memo.specs.Head.{head_of}
use Rattle.report_texts.specs.Words.{labels_of}
use Rattle.report_memo.proofs.AnswerLemmas.{finding_weaker}
use Rattle.report_memo.proofs.report.AskedReport.text.Goals as goal

pub returns : goal.returns
returns g c =
    let asked = c.args.self.now in
    let court = c.args.checked.court in
    let input = input_checked c.args.checked in
    let file = c.args.file.now in
    let numbered = numbered_from 1 input.rows in
    let head = head_of file court [] [] numbered asked.case asked.today in
    let labels = labels_of file [] [] [] in
    let rows : c.as_slice-2.result.now ≡ numbered = c.as_slice-2.ensures.value ∙ c.in_ok-rows.ensures ∙ ap (numbered_from 1) c.as_slice.ensures.value in
    IfOk-weaker c.memo_of.result _ _ (λ found is. finding_weaker (λ text. text.items) (IsWritten head asked court labels numbered) (IsAnswerOf asked file labels input) (IsMissing asked court labels numbered) (IsMissingOf asked labels input) (λ text written. record { court = court; is_court = refl; is_written = written }) (λ line missing. record { court = court; is_court = refl; is_missing = missing }) found is)
    (rw (rows, c.new-cases.ensures, c.new-moved.ensures, c.new-called.ensures) at c.memo_of.ensures)
