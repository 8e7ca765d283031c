-- The words of clauses and definitions, for the crates above, from one place.
pub use Rattle.clerk_seats.specs.Places.{places_after, places_of, Within}
pub use Rattle.clerk_seats.specs.Finished.{DocketDraft, next_entry, IsMade, IsCommitted, IsFull, IsOutdated, LacksMemory, Commits, MakesNow, Settles, Makes}
pub use Rattle.clerk_seats.specs.Seats.{SeatView, Goes, mine_then, draft_then, IsReady, DraftCommits, SeatCommits, SeatPerforms}
pub use Rattle.clerk_seats.specs.Opened.{AreSeats, IsLimit, open_seat, open_seats, IsOpened, IsRefused}
pub use Rattle.clerk_seats.specs.Closed.{TallyView, numbers_of, calls_of, AreApart, HasTallies, AreOfSeats, IsFirstMissing, StaysOpen, IsClosed}
