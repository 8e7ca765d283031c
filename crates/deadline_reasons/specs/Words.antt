-- The words of clauses and definitions, for the crates above, from one place.
pub use Rattle.deadline_reasons.specs.Derivation.{IsDerivation, DerivationsEndInWhatIsShown, DeadlinesHaveOneDerivation}
unfoldable pub use Rattle.deadline_reasons.specs.Derivation.{Lead}
