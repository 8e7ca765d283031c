-- The words of clauses and definitions, for the crates above, from one place.
pub use Rattle.report_texts.specs.Called.{called_after, label_after, title_after}
unfoldable pub use Rattle.report_texts.specs.Case.{case_page_text}
unfoldable pub use Rattle.report_texts.specs.Days.{whole_day}
pub use Rattle.report_texts.specs.Due.{case_words, is_day_of, left_out_line}
unfoldable pub use Rattle.report_texts.specs.Due.{chosen_words, closing_line, lines_after, due_text}
pub use Rattle.report_texts.specs.Holidays.{holiday_names, doubtful_days}
pub use Rattle.report_texts.specs.Labels.{LabelsView, labels_of}
pub use Rattle.report_texts.specs.Items.{time_words, matter_words, room_words}
unfoldable pub use Rattle.report_texts.specs.Items.{span_words}
unfoldable pub use Rattle.report_texts.specs.Names.{panel_names}
pub use Rattle.report_texts.specs.Other.{given_words}
unfoldable pub use Rattle.report_texts.specs.Other.{reading_words}
unfoldable pub use Rattle.report_texts.specs.Periods.{period_words}
pub use Rattle.report_texts.specs.Periods.{unit_words}
pub use Rattle.report_texts.specs.Pending.{holder_words, kind_words}
unfoldable pub use Rattle.report_texts.specs.Pending.{pending_title, pending_count, pending_text}
unfoldable pub use Rattle.report_texts.specs.PendingCsv.{pending_csv}
pub use Rattle.report_texts.specs.Selected.{counted_in, numbered_calendar, numbered_day, numbered_item, numbered_pending}
unfoldable pub use Rattle.report_texts.specs.Sheets.{case_lines, labelled_deadline, labelled_motion, labelled_sheet}
unfoldable pub use Rattle.report_texts.specs.Week.{week_text}
