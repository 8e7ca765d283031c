-- The lemmas for the crates above, from one place.
pub use Rattle.desk_numbers.proofs.StrikesLemmas.SaidTextLemmas.{line_says, numbers_back, said_read}
pub use Rattle.desk_numbers.proofs.StrikesLemmas.StrikeLemmas.{not_both, restores_back, strikes_back}
pub use Rattle.desk_numbers.proofs.StrikesLemmas.StruckLemmas.{still_before, undone}
