-- The words of clauses and definitions, for the crates above, from one place.
pub use Rattle.reason_texts.specs.Periods.Heading.{rule_section, rule_words, event_words, mark_section, mark_words, heading_of}
unfoldable pub use Rattle.reason_texts.specs.Periods.Heading.{entered_text, rule_text, heading_lines}
unfoldable pub use Rattle.reason_texts.specs.Periods.Called.{called_lines}
