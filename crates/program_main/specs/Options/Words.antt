-- The words of clauses and definitions, for the crates above, from one place.
pub use Rattle.program_main.specs.Options.CommandLine.{most_clerks, clerks_rule, journal_rule, bare_command, command_line}
pub use Rattle.program_main.specs.Options.Held.{number_written, number_held, rows_by_words, DefaultsHold}
pub use Rattle.program_main.specs.Options.Kinds.{IsMistake, IsFaultOf, IsFaultAmong, IsAnswerFor, HasMistake, AsksForHelp, IsRefused}
pub use Rattle.program_main.specs.Options.Named.{arguments_in}
