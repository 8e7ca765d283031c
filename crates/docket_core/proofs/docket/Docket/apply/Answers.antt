use Rattle.docket_core.proofs.DocketLemmas.{still_docket, step_made}
use Rattle.docket_core.proofs.docket.Docket.apply.Goals as goal

pub invariant_of-self : goal.invariant_of-self
invariant_of-self c =
    still_docket c.self.inside.holdings c.apply.new.self c.args.command.now c.apply.result c.apply.ensures.setup c.apply.ensures.parts c.apply.ensures.err c.self.invariant

pub returns-clause-rows : goal.returns-clause-rows
returns-clause-rows c =
    rw c.self.view_is at (step_made c.self.inside.holdings c.apply.new.self c.args.command.now c.apply.result c.apply.ensures.answer c.apply.ensures.parts)

pub returns-clause-lawful : goal.returns-clause-lawful
returns-clause-lawful c =
    still_docket c.self.inside.holdings c.apply.new.self c.args.command.now c.apply.result c.apply.ensures.setup c.apply.ensures.parts c.apply.ensures.err c.self.invariant
