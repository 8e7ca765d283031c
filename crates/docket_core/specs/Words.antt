-- The words of clauses and definitions, for the crates above, from one place.
pub use Rattle.docket_core.specs.Docket.{DocketView, parts_held, StandsFor, IsDocket}
pub use Rattle.docket_core.specs.Memory.{decision_takes_memory, view_takes_memory}
