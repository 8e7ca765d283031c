-- The words of clauses and definitions, for the crates above, from one place.
pub use Rattle.docket_decisions.specs.Changes.{CanChangeRecord}
pub use Rattle.docket_decisions.specs.Memory.{takes_memory}
