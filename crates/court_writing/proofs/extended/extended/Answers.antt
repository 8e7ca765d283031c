use Rattle.court_writing.proofs.UpdateLemmas.{extended_so}
use Rattle.court_writing.proofs.extended.extended.Goals as goal

pub returns-clause-extended : goal.returns-clause-extended
returns-clause-extended c =
    extended_so c.args.state _ c.to-last.result c.day_after-first.result c.last_day-end.result c.args.to _ _ _ _ _ _ _ _ _ _ _ _ _ _ _ _ _ _
    c.to-last.ensures.value c.day_after-first.ensures.value c.last_day-end.ensures.value
    c.in_ok-federal.ensures.days c.as_str.ensures.value c.as_str-4.ensures.value
    c.in_ok-of_state.ensures.days c.as_str-2.ensures.value c.as_str-5.ensures.value
    c.new-names.ensures.bytes c.in_ok-push_lines.ensures c.as_str-3.ensures.value
    c.deref.ensures.value c.deref-2.ensures.value c.deref-3.ensures.value
    c.in_ok-with_last.ensures.put c.in_ok-with_federal.ensures.put c.in_ok-with_state.ensures.put c.in_ok-file.ensures.put
    c.in_ok-said.ensures
