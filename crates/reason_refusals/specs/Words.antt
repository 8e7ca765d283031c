-- The words of clauses and definitions, for the crates above, from one place.
pub use Rattle.reason_refusals.specs.Asked.{deadline_asked, motion_of_refusal, request_asked}
unfoldable pub use Rattle.reason_refusals.specs.Lines.{refusal_lines}
unfoldable pub use Rattle.reason_refusals.specs.Ranges.{query_lines}
