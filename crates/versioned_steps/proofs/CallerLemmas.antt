-- The lemmas for the crates above.
-- Histories: the empty one, one more entry, a beginning, parts that nothing touched, and the last entry.
pub use Rattle.versioned_steps.proofs.HistoryLemmas.{legal_empty, value_empty, version_empty, value_push, version_push, legal_push, legal_before, legal_prefix, legal_last, version_most, unchanged_after, unchanged}
pub use Rattle.versioned_steps.proofs.TouchLemmas.{version_is_last_touch, fresh_untouched, untouched_fresh}
pub use Rattle.versioned_steps.proofs.RunLemmas.{run_legal, legal_serial}
-- Runs: each finished command is one entry.
pub use Rattle.versioned_steps.proofs.FinishedLemmas.{finished_once}
-- Reads and drafts: as the history grows, all at one moment, and what a fresh draft may become.
pub use Rattle.versioned_steps.proofs.ReadLemmas.{read_now_is, read_longer, fresh_value, reads_now, may_follow, may_follow_writes, staged_writes, draft_add}
pub use Rattle.versioned_steps.proofs.PreparedLemmas.{draft_longer, prepared_longer, reading_start, reading_more, reading_room, reading_done, now_fresh, now_not_stale, read_all_commits}
-- Stores: what a call says by the rules of its owner, said of an owner that is the same.
pub use Rattle.versioned_steps.proofs.StoreLemmas.{kept_by, put_by}
-- Reads of given values: all that a command reads.
pub use Rattle.versioned_steps.proofs.WholeLemmas.{AreOf, reads_whole}
