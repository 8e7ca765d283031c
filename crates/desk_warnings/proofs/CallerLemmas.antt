-- The lemmas for the crates above.
pub use Rattle.desk_warnings.proofs.CarefulLemmas.{careful_history, keep_nothing, refused_held}
