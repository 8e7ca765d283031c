-- The lemmas for the crates above.
-- The places of a clerk in one history and then another.
pub use Rattle.clerk_seats.proofs.PlaceLemmas.{places_append}
