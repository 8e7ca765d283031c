use Rattle.std.proofs.Common.{◌≡◌, ℕ, Option, ap, string_bytes, subst}
use Rattle.std.specs.Prelude.{IfOk, MatchOption}
use Rattle.program_runs.specs.Words.{IsFinding}
use Rattle.report_memo.specs.Answer.{no_case}
use Rattle.report_texts.specs.Words.{LabelsView}
use Rattle.report_memo.specs.Case.{IsCaseClosed, IsCaseMemo}
use Rattle.report_memo.proofs.report.called_text.Goals as goal

pub returns-in-Some : goal.returns-in-Some
returns-in-Some c =
    let court = c.args.court.now in
    let labels = c.args.labels.now in
    let rows = c.args.rows.now in
    subst (λ (r : Option ℕ). IfOk c.case_text.result (IsFinding string_bytes
    (λ text. MatchOption r ⊥ (λ case. IsCaseMemo court labels rows case c.args.today text))
    (λ line. MatchOption r (line ≡ no_case c.args.called.now) (λ case. IsCaseClosed court labels rows case line))))
    (rw (ap (λ (l : LabelsView). l.cases) c.labels.view_is) at c.in-Some.ensures) c.case_text.ensures
