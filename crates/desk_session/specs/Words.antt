-- The words for the crates above, from one place.
pub use Rattle.desk_session.specs.Account.{is_printable}
unfoldable pub use Rattle.desk_session.specs.Account.{account_text}
pub use Rattle.desk_session.specs.Faults.{EndsSession, HasLongLine, StopsBytes, fault_from}
pub use Rattle.desk_session.specs.Lines.{IsFirstLine, HasNoEnd, after_mark, lines_of, mark_before, mark_of, number_after, numbered_lines, or_whole, unfinished_of, unmarked, unmarked_lines}
unfoldable pub use Rattle.desk_session.specs.Lines.{numbered_from}
pub use Rattle.desk_session.specs.Outcomes.{counted_with, is_held, no_lines, tally_of, tally_with}
unfoldable pub use Rattle.desk_session.specs.Outcomes.{tally_after}
pub use Rattle.desk_session.specs.Reading.{GivesLines, IsCutInLines}
pub use Rattle.desk_session.specs.ShortLines.{HasLinesCut, HasLinesWithin, count_with, ended_last, open_last, passed_on, short_lines, short_remaining}
unfoldable pub use Rattle.desk_session.specs.ShortLines.{cut, most_line, most_whole, short_from}
pub use Rattle.desk_session.specs.Stamped.{IsStampedOn}
pub use Rattle.desk_session.specs.Stopped.{Stopped, or_later, stopped_as, stopped_in, stops}
unfoldable pub use Rattle.desk_session.specs.Stopped.{first_stopped}
pub use Rattle.desk_session.specs.Taken.{TakesLine, TakesLines}
unfoldable pub use Rattle.desk_session.specs.Taken.{left_by, told_to}
pub use Rattle.desk_session.specs.Served.{AfterBytes, IsAllOrNone, IsPromised, IsServed}
pub use Rattle.desk_session.specs.Turns.{LeavesFile, Turn, left_in, told_in}
