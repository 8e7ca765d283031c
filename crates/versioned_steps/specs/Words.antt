-- The words of clauses and definitions, for the crates above, from one place.
pub use Rattle.versioned_steps.specs.Rules.{Rules, parts_named, AreReadAfter, AreReadsOf, AreAllReadsOf, IsLawful}
pub use Rattle.versioned_steps.specs.History.{write_to, written, reads_on, answer_on, writes_on, touches, value_of, version_of, is_legal, MayFollow, TouchesAt, IsLastTouch}
unfoldable pub use Rattle.versioned_steps.specs.History.{values_after}
pub use Rattle.versioned_steps.specs.Reads.{Read, copies_of, AreAt, IsRead, IsFresh, IsStale}
pub use Rattle.versioned_steps.specs.Drafts.{DecisionView, DraftView, decided, IsDraftOf, IsPrepared, MayCommit, IsReading, IsReadAll, entry_of, AreOwn}
pub use Rattle.versioned_steps.specs.Stores.{StoreView, ChangeView, IsStaged, Replays}
pub use Rattle.versioned_steps.specs.World.{World, IsRun, opening_world, world_of}
pub use Rattle.versioned_steps.specs.Inside.Serial.{Served, served, IsSerial}
pub use Rattle.versioned_steps.specs.Finished.{Finish, begun_by, begun_then, finish_of, finishes, entered}
