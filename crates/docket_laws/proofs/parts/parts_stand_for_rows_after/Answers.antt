use Rattle.docket_laws.proofs.PartsAfter.{parts_after}
use Rattle.docket_laws.proofs.parts.parts_stand_for_rows_after.Goals as goal

pub returns : goal.returns
returns c = parts_after
