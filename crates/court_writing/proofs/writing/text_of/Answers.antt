use Rattle.court_writing.proofs.LinesLemmas.{is_text}
use Rattle.court_writing.proofs.writing.text_of.Goals as goal

pub returns : goal.returns
returns c =
    is_text c.args.court.state c.args.from c.args.to _ _ _ _ _ _ c.list_note-federal_note.result.now c.list_note-state_note.result.now _ _ _ c.in_ok-push_list.ensures c.in_ok-push_str.ensures.bytes c.in_ok-push_list-2.ensures c.in_ok-push_str-2.ensures.bytes c.in_ok-push_lines.ensures c.first_day.ensures.value c.last_day.ensures.value
