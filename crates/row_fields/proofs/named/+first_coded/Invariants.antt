use Rattle.std.proofs.Common.{length}
use Rattle.row_fields.proofs.named.+first_coded.Given as goal

abbrev pub decreases-first_coded : goal.decreases-first_coded
decreases-first_coded l = length l.periods.now
