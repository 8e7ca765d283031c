-- The lemmas for the crates above.
pub use Rattle.clerk_workers.proofs.AnsweredLemmas.{are_answered_later}
pub use Rattle.clerk_workers.proofs.NotedLemmas.{are_noted, held_long, noted_long}
pub use Rattle.clerk_workers.proofs.OrderLemmas.{open_in_order, open_long}
pub use Rattle.clerk_workers.proofs.RowLemmas.{answers_other, answers_own, works_append, works_other, works_own}
