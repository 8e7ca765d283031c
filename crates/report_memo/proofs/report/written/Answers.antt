use Rattle.report_memo.proofs.report.written.Goals as goal

pub returns : goal.returns
returns c = λ labels answer. record {
  body = c.args.body.now;
  is_answer = answer;
  shown = c.in_ok-text.ensures;
}
