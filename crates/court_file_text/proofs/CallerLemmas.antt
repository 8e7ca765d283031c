-- The lemmas for the crates above.
pub use Rattle.court_file_text.proofs.ReadingLemmas.{goes_on, fails, is_done, toml_of-text, toml_of-none}
