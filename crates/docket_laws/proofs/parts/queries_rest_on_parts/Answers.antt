use Rattle.docket_laws.proofs.PartsSame.{same_view}
use Rattle.docket_laws.proofs.parts.queries_rest_on_parts.Goals as goal

pub returns : goal.returns
returns c = same_view
