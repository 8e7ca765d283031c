-- The lemmas for the crates above.
pub use Rattle.desk_program.proofs.DeskLemmas.{answered_docket, none_promised, unanswered_docket}
