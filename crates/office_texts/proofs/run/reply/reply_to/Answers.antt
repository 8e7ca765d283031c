use Rattle.office_texts.proofs.RunLemmas.RunLemmas.{made}
use Rattle.office_texts.proofs.run.reply.reply_to.Goals as goal

pub returns-in_ok-apply-in-Command : goal.returns-in_ok-apply-in-Command
returns-in_ok-apply-in-Command c setup docketed holds =
    rw c.in-Command.is (made setup docketed c.args.docket.now c.apply.new.self c.in-Command.command c.in_ok-apply-in-Command.field-0 holds c.apply.ensures.setup c.in_ok-apply-in-Command.ensures.rows)
