-- The words of clauses and definitions, for the crates above, from one place.
pub use Rattle.docket_selection.specs.Choice.{is_case_chosen, is_day_chosen, is_end_chosen, is_panel_chosen, sits_in, sits_in_any, has_assigned, is_case_before, is_before, are_deadlines_chosen, has_hearing}
pub use Rattle.docket_selection.specs.Items.{end_of, deadline_item, set_item, hearing_item, is_timely, is_pending, is_met, is_ended, time_of}
pub use Rattle.docket_selection.specs.Sheets.{sheet_seen, open_sheets}
unfoldable pub use Rattle.docket_selection.specs.Sheets.{sheets_from}
pub use Rattle.docket_selection.specs.Due.{is_matter_chosen, is_due_any_day, is_due, is_other_chosen, is_due_by_either, due_only, due_by_either, due_deadline, due_hearing, all_due, is_at_time_of, AreInOrder, IsDue}
unfoldable pub use Rattle.docket_selection.specs.Due.{due_in}
pub use Rattle.docket_selection.specs.LeftOut.{is_left_out, left_out_only, left_out_deadline, all_left_out}
unfoldable pub use Rattle.docket_selection.specs.LeftOut.{left_out_in}
pub use Rattle.docket_selection.specs.Bookings.{bookings_seen, day_bookings, day_numbered, monday_of, day_of_week, week_days, week_start}
unfoldable pub use Rattle.docket_selection.specs.Bookings.{days_of_week}
pub use Rattle.docket_selection.specs.Calendars.{is_booking_chosen, chosen_bookings, calendar_with, calendar_chosen, chosen_calendars, is_sheet_chosen, chosen_sheets}
unfoldable pub use Rattle.docket_selection.specs.Calendars.{calendars_from}
pub use Rattle.docket_selection.specs.Pending.{decides, is_decided, is_listed_under, pending_motion, pending_case, pending_in, pending_before, pending_among, all_pending}
unfoldable pub use Rattle.docket_selection.specs.Pending.{motion_if_pending, listed_under, pending_from}
