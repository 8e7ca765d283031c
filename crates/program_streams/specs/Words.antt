-- The words of clauses and definitions, for the crates above, from one place.
pub use Rattle.program_streams.specs.Watched.{watched, has_failed, has_ended, was_called_again, read_calls, bytes_given, counted, moved_nothing}
pub use Rattle.program_streams.specs.Limits.{most_bytes, most_reads, IsWithinLimits, IsPastLimits, WasCutShort, WasReadWhole, AppendsFront, IsGiven}
pub use Rattle.program_streams.specs.Gathered.{IsGathered, Adds}
