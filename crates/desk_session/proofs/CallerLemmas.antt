-- The lemmas for the crates above.
pub use Rattle.desk_session.proofs.LineLemmas.{numbered_from-first, numbered_from-none}
pub use Rattle.desk_session.proofs.PromiseLemmas.{answered, unanswered}
pub use Rattle.desk_session.proofs.TakenLemmas.{left_by-append, more_taken, none_taken, one_left, one_taken, one_told}
