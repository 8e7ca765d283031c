use Rattle.std.proofs.Common.{length}
use Rattle.row_fields.proofs.named.+first_cited.Given as goal

abbrev pub decreases-first_cited : goal.decreases-first_cited
decreases-first_cited l = length l.periods.now
