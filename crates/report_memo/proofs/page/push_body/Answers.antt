use Rattle.report_memo.proofs.page.push_body.Goals as goal

pub returns : goal.returns
returns c = rw (c.as_slice.ensures.value, c.in_ok-found.ensures) at c.push_lines.ensures
