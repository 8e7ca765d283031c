use Rattle.docket_core.proofs.DocketLemmas.{shown_of_rows}
use Rattle.docket_core.proofs.docket.Docket.show.Goals as goal

pub returns-clause-rows : goal.returns-clause-rows
returns-clause-rows c = rw c.self.view_is at (shown_of_rows c.self.inside.holdings c.args.query.now c.show.result c.show.ensures.view)
