use Rattle.std.proofs.Common.{◌∙◌, ◌+◌, ◌++◌, ℕ, List, ap}
use Rattle.csv.specs.Records.{fields_of}
use Rattle.csv.specs.Writing.{default_writer, row_text}
use Rattle.csv.specs.declared.record.StringRecord.{StringRecord}
use Rattle.case_numbers.specs.Words.{CasesView, name_line}
use Rattle.desk_numbers.specs.Words.{TextsView}
use Rattle.desk_register.specs.Called.{called_standing, with_newly}
use Rattle.desk_register.specs.Cases.{opened_as, with_opened}
use Rattle.desk_register.proofs.register.DocketRegister.done.Goals as goal

pub returns-clause-done : goal.returns-clause-done
returns-clause-done c = λ kept stands. record {
  answer = c.in_ok-answer.ensures.answer kept stands;
  entry = c.in_ok-entry.ensures
      ∙ ap (λ (f : StringRecord). name_line c.args.name ++ (row_text default_writer (fields_of f) ++ c.deref.result.now)) c.answered.ensures.fields
      ∙ ap (λ (l : List ℕ). name_line c.args.name ++ (row_text default_writer (fields_of c.args.self.now.fields) ++ l)) (c.deref.ensures ∙ c.in_ok-answer.ensures.answer kept stands);
  came = c.in_ok-answer.ensures.came kept stands;
  docket = c.in_ok-answer.ensures.docket kept stands;
  numbers = c.in_ok-answer.ensures.numbers kept stands;
  cases = c.in_ok-note_case.ensures ∙ ap (λ (k : CasesView). with_opened k (opened_as c.args.row.now.work) c.args.name) (c.answered.ensures.cases ∙ stands.cases);
  called = c.in_ok-add_newly.ensures
      ∙ ap (λ (t : TextsView). with_newly t c.in_ok-newly.newly) (c.answered.ensures.called ∙ stands.called)
      ∙ ap (with_newly (called_standing c.args.under.now kept)) (c.in_ok-newly.ensures c.args.under.now kept stands);
  number = ap (λ (n : ℕ). n + 1) (c.answered.ensures.number ∙ stands.number);
  count = ap (λ (n : ℕ). n + 1) (c.answered.ensures.count ∙ stands.count);
}
