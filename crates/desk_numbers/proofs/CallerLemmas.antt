-- The lemmas for the crates above, from one place.
pub use Rattle.desk_numbers.proofs.MapLemmas.{changed_up_to}
pub use Rattle.desk_numbers.proofs.NumberLemmas.{nothing_moves}
pub use Rattle.desk_numbers.proofs.PlaceLemmas.{found_after, its_place, none_found}
pub use Rattle.desk_numbers.proofs.PlainLemmas.{nothing_changes, placed_alone}
pub use Rattle.desk_numbers.proofs.SaidLemmas.{said_is_kept}
