-- The words of clauses and definitions, for the crates above, from one place.
unfoldable pub use Rattle.report_ics.specs.Times.{slot_begins}
pub use Rattle.report_ics.specs.Times.{utc_if_any}
unfoldable pub use Rattle.report_ics.specs.Events.{event_lines, uid}
pub use Rattle.report_ics.specs.Appointments.{appointment_of, set_off, chosen_only, off_hearing, off_hearings, has_left, lost_only, off_item}
unfoldable pub use Rattle.report_ics.specs.Appointments.{appointments_of, off_from, lost_deadlines, off_deadlines}
pub use Rattle.report_ics.specs.Calendar.{icalendar_lines, icalendar_text}
