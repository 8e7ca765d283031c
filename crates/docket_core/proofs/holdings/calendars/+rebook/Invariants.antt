use Rattle.std.proofs.Common.{length}
use Rattle.docket_core.proofs.holdings.calendars.+rebook.Given as goal

abbrev pub decreases-rebook : goal.decreases-rebook
decreases-rebook l = length l.judges.now
