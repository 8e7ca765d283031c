-- The lemmas for the crates above.
pub use Rattle.content_lines.proofs.FoldingLemmas.{unfolding_gives_the_lines}
pub use Rattle.content_lines.proofs.ShortLemmas.{sent_lines_are_short}
pub use Rattle.content_lines.proofs.WholeLemmas.{folds_are_between_characters}
pub use Rattle.content_lines.proofs.PropertyLemmas.{property-content, sent-append, sent-flat_map}
