-- The lemmas for the crates above.
pub use Rattle.docket_selection.proofs.DueLemmas.{nothing_more, one_item_more, one_number_more, no_number_more}
