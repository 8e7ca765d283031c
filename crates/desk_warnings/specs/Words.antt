-- The words for the crates above, from one place.
unfoldable pub use Rattle.desk_warnings.specs.Warnings.{warnings_of}
pub use Rattle.desk_warnings.specs.Warnings.{warnings_on}
pub use Rattle.desk_warnings.specs.Rows.{against_rows, came_of_rows, labels_new, line_rows, said_at, warned_at}
unfoldable pub use Rattle.desk_warnings.specs.Rows.{against_row, came_after, warnings_at}
pub use Rattle.desk_warnings.specs.Careful.{are_marked, careful_answers, careful_leaves, careful_outcome, held_for, line_for, taken_at}
pub use Rattle.desk_warnings.specs.Laws.{CarefulIsHistory, LineIsKeptWhole, NothingIsHeldBack, RefusedAreHeld, WarningsKeepNothing}
unfoldable pub use Rattle.desk_warnings.specs.Laws.{lines_taken}
