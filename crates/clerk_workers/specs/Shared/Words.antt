-- The words of clauses and definitions, for the crates above, from one place.
pub use Rattle.clerk_workers.specs.Inside.Calls.{Call, calls_by, call_told, calls_told}
pub use Rattle.clerk_workers.specs.Shared.Run.{IsGivenAt, IsTold, IsSharedRun}
pub use Rattle.clerk_workers.specs.Shared.Text.{row_text, IsSharedText}
unfoldable pub use Rattle.clerk_workers.specs.Shared.Text.{answer_line, answer_lines}
