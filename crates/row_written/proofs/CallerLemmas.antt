-- The lemmas for the crates above.
pub use Rattle.row_written.proofs.RowLemmas.{found_all, found_more, next_word}
