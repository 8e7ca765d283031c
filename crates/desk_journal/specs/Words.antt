-- The words for the crates above, from one place.
pub use Rattle.desk_journal.specs.Batches.{batch_of, frames_of}
pub use Rattle.desk_journal.specs.Disks.{IsDurable, IsUntouched}
pub use Rattle.desk_journal.specs.Faults.{IsTooMuch, HasAppendFault, HasBeginFault, HasEntries, HasFileFault, HasOpenFault, HasResumeFault, HasWriteFault}
pub use Rattle.desk_journal.specs.Frames.{Frame, HasStamps, IsFrame, StandsFor, StandsStamped, entries_of, stamps_of}
pub use Rattle.desk_journal.specs.Kept.{IsKept, IsUnchanged, KeepsFrames, KeepsStamps, disk_of, end_of, stamp_of}
pub use Rattle.desk_journal.specs.Left.{BeginsWith, HasLast, IsEndOf, place_of_end, time_of_end}
pub use Rattle.desk_journal.specs.Reading.{IsDamaged, IsOlder, IsTail, IsWhole, HasTooMany}
pub use Rattle.desk_journal.specs.Recovered.{IsResumed}
pub use Rattle.desk_journal.specs.Stamps.{AddsStamps, StampView}
