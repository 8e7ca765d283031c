-- The words of clauses and definitions, for the crates above, from one place.
pub use Rattle.court_file_text.specs.Key.{key_name}
pub use Rattle.court_file_text.specs.Fault.{court_fault_text}
pub use Rattle.court_file_text.specs.Names.{name_index}
pub use Rattle.court_file_text.specs.Reading.{◌>>=◌, must, toml_of, value_at, if_there, item_count, text_of, is_name_byte, is_name, is_desk_name_byte, is_desk_name, is_named, and_name_by, names_by, Fails, Gives}
unfoldable pub use Rattle.court_file_text.specs.Reading.{text_at, minute_at, minute_if_there, date_at, list_at, each_item, date_of_item, and_name, names_at, and_desk_name, desk_names_at}
pub use Rattle.court_file_text.specs.Control.{begins_control, is_control_byte}
unfoldable pub use Rattle.court_file_text.specs.Control.{has_control}
pub use Rattle.court_file_text.specs.PeriodNames.{NamedTextView, PeriodNamesView, is_printed, no_period_names, text_named}
unfoldable pub use Rattle.court_file_text.specs.PeriodNames.{period_names}
