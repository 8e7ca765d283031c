-- The words of clauses and definitions, for the crates above, from one place.
pub use Rattle.clerk_program.specs.Text.{IsRun, IsTextBy, IsTextOf}
pub use Rattle.clerk_program.specs.Choice.{Give}
pub use Rattle.clerk_program.specs.UniqueText.{TextsAreUnique}
