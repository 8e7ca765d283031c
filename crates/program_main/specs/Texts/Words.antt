-- The words of clauses and definitions, for the crates above, from one place.
pub use Rattle.program_main.specs.Texts.Argument.{folder_rule, needed_rule, text_rule, with_source}
pub use Rattle.program_main.specs.Texts.Days.{day_on, day_said, last_of_days, today_by}
pub use Rattle.program_main.specs.Texts.Numbers.{number_of}
pub use Rattle.program_main.specs.Texts.Taken.{faults_unless, is_case_taken, is_count_taken, is_day_taken, is_said_taken}
