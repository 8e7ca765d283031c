-- The words of clauses and definitions, for the crates above, from one place.
pub use Rattle.reason_refusals.specs.Commands.Entries.{deadline_at, motion_at}
unfoldable pub use Rattle.reason_refusals.specs.Commands.Reasons.{why_refused}
