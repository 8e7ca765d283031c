-- The words of clauses and definitions, for the crates above, from one place.
pub use Rattle.docket_selection.specs.Explained.Explained.{AreAlike, IsExplained, IsSheetExplained, AreExplained}
