-- The lemmas for the crates above.
-- Beginnings of one history.
pub use Rattle.published_docket.proofs.TrailLemmas.{prefix_shorter, prefix_whole, prefix_length}
pub use Rattle.published_docket.proofs.PublishedLemmas.{prefix_self, prefix_trans, begins_itself, begins_on}
-- Cells: which parts have them, and that no two share one.
pub use Rattle.published_docket.proofs.CellLemmas.{cell_next, cells_differ, cell_below}
-- What is published goes on from what was known.
pub use Rattle.published_docket.proofs.PublishedLemmas.{extends_itself, extends_on}
