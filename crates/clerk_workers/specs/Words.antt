-- The words of clauses and definitions, for the crates above, from one place.
pub use Rattle.clerk_workers.specs.Rows.{works_of, answers_of, AreOfClerks}
pub use Rattle.clerk_workers.specs.Answered.{History, place_told, places_told, IsFinished, Says, IsAnsweredAt, AreAnswered, AreInTurn}
pub use Rattle.clerk_workers.specs.Worked.{tally_of, HasWorked, HasStopped}
pub use Rattle.clerk_workers.specs.Inside.Merged.{AreAsMany, AreMerged, list_at}
pub use Rattle.clerk_workers.specs.Noted.{AllHold, HasNoted, AllNoted, AreNoted, RunsNoting}
pub use Rattle.clerk_workers.specs.Runs.{AreNumbered, AreInOrder, AllWorked, HasRun, AllStopped, Runs}
