use Rattle.office_texts.proofs.RunLemmas.RunLemmas.{run_text_made}
use Rattle.office_texts.proofs.run.text.run_text.Goals as goal

pub returns : goal.returns
returns c =
    run_text_made c.args.court.now c.args.rows.now c.push_replies.new.docket _ _ _ c.new-text.ensures.bytes c.in_ok-push_replies.ensures.text c.in_ok-push_replies.ensures.docket c.in_ok-push_closing.ensures
