use Rattle.std.proofs.Common.{length}
use Rattle.reason_texts.proofs.names.+name_on.Given as goal

abbrev pub decreases-name_on : goal.decreases-name_on
decreases-name_on l = length l.names.now
