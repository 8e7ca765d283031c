-- The words of clauses and definitions, for the crates above, from one place.
pub use Rattle.docket_shifts.specs.Compared.{ComparedView, ShownRows, rows_shown, sheet_in}
pub use Rattle.docket_shifts.specs.Line.{shift_line}
pub use Rattle.docket_shifts.specs.Shifts.{case_shifts, shifts}
unfoldable pub use Rattle.docket_shifts.specs.Shifts.{shifts_from}
