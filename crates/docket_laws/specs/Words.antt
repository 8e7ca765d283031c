-- The words of clauses and definitions, for the crates above, from one place.
pub use Rattle.docket_laws.specs.Inside.CanSet.{CanSet}
pub use Rattle.docket_laws.specs.Reads.{most_reads, parts_in, WereReadAfter, WereRead, AreValuesOf, HasSpan, is_wanted, value_written}
pub use Rattle.docket_laws.specs.Clocks.{IsSameSetup}
pub use Rattle.docket_laws.specs.Lawful.{docket_after, NoneIsBookedTwice, AllAreOnCourtDays, AllHaveNotice, deadline_on_sheet, SheetShowsDeadlines}
