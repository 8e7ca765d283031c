-- The words of clauses and definitions, for the crates above, from one place.
pub use Rattle.report_memo.specs.Answer.{IsMissing, IsWritten}
pub use Rattle.report_memo.specs.Asked.{IsAskedBy, are_given_taken, day_made, faults_given}
pub use Rattle.report_memo.specs.CommandLine.{with_memo}
unfoldable pub use Rattle.report_memo.specs.Head.{head_of}
