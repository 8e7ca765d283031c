-- The words of clauses and definitions, for the crates above, from one place.
pub use Rattle.office_texts.specs.Added.{AddsText}
pub use Rattle.office_texts.specs.Shown.{time_text, end_text, shown_text}
pub use Rattle.office_texts.specs.Refusals.{motion_named, refusal_detail}
unfoldable pub use Rattle.office_texts.specs.Refusals.{refusal_text}
unfoldable pub use Rattle.office_texts.specs.Answers.{answer_text}
pub use Rattle.office_texts.specs.Periods.{length_text, direction_text, act_text, start_text, entered_text}
unfoldable pub use Rattle.office_texts.specs.Periods.{period_text}
pub use Rattle.office_texts.specs.Calendars.{name_of, slot_text, slots_text, span_text, booking_lines}
unfoldable pub use Rattle.office_texts.specs.Calendars.{booking_line, calendar_lines}
pub use Rattle.office_texts.specs.Sheets.{state_word, means_text, act_done_text, suspended_text, ended_text, and_ended_text, state_text, need_text, panel_text, affidavits_text, service_text, hearing_line_if_set, ruled_text, and_ruled_text, and_closed_text, referred_text, assigned_text, assigned_line, case_line}
unfoldable pub use Rattle.office_texts.specs.Sheets.{deadline_line, hearing_text, motion_lines, sheet_lines}
unfoldable pub use Rattle.office_texts.specs.Views.{view_lines}
