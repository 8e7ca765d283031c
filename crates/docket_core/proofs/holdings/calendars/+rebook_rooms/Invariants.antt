use Rattle.std.proofs.Common.{length}
use Rattle.docket_core.proofs.holdings.calendars.+rebook_rooms.Given as goal

abbrev pub decreases-rebook_rooms : goal.decreases-rebook_rooms
decreases-rebook_rooms l = length l.rooms.now
