-- The words of clauses and definitions, for the crates above, from one place.
pub use Rattle.report_program.specs.Asked.{IsAskedBy, are_given_taken, faults_given}
pub use Rattle.report_program.specs.Calendar.{IsCalendar, IsMissing}
pub use Rattle.report_program.specs.CommandLine.{with_reports}
pub use Rattle.report_program.specs.Past.{PastView, no_past}
