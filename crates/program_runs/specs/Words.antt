-- The words of clauses and definitions, for the crates above, from one place.
pub use Rattle.program_runs.specs.Division.{court_part, rows_part}
unfoldable pub use Rattle.program_runs.specs.Division.{divided_from}
pub use Rattle.program_runs.specs.Divider.{FirstDividerDivides, IsDividedAtDivider, HasNoDivider}
pub use Rattle.program_runs.specs.Fault.{fault_text, no_text_line, told_line, status_number, IsTold, IsToldAs}
pub use Rattle.program_runs.specs.Office.{Input, IsChecked, IsRunBy, AnswersInput, HasFaultTold, names_in, rests_on_input}
unfoldable pub use Rattle.program_runs.specs.Office.{input_of}
pub use Rattle.program_runs.specs.Report.{IsFinding, IsReportRun, MayMiss, input_checked}
