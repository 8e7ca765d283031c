-- The words of clauses and definitions, for the crates above, from one place.
pub use Rattle.program_words.specs.AsOf.{as_of_said, is_as_of}
pub use Rattle.program_words.specs.Asked.{IsAskedTask, are_taken, faults_of}
