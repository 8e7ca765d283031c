-- The words of clauses and definitions, for the crates above, from one place.
pub use Rattle.published_docket.specs.Trails.{TrailView, trail_view, IsBeginning}
pub use Rattle.published_docket.specs.Cells.{HasCell, cell_after, IsReplayed, IsSmall}
pub use Rattle.published_docket.specs.Boards.{BoardView, known_of, IsShown}
pub use Rattle.published_docket.specs.Published.{Extends, Published, Sees}
pub use Rattle.published_docket.specs.Reading.{HasRead}
