-- The words of clauses and definitions, for the crates above, from one place.
pub use Rattle.rule_periods.specs.Rule.{terms_of, right_from, service_rule_of, takes_second_day, rule_code, rule_of_code, CodesNamePeriods}
pub use Rattle.rule_periods.specs.Mark.{mark_code, CodesNameMarks}
unfoldable pub use Rattle.rule_periods.specs.Mark.{mark_of_code}
pub use Rattle.rule_periods.specs.Event.{EventView}
pub use Rattle.rule_periods.specs.Period.{act_of, direction_of, extension_of_mark, extension_of, is_hour_length, is_day_length, is_set_length, is_in_hours, is_set, is_days, is_hour_count, is_length, has_length, is_after, is_given, is_kind_for, is_second_for, is_kind_for_entered, suits}
pub use Rattle.rule_periods.specs.FirstRefusal.{when, first_of}
pub use Rattle.rule_periods.specs.Start.{is_covered_if_given, start_checks}
unfoldable pub use Rattle.rule_periods.specs.Start.{start_refusal}
pub use Rattle.rule_periods.specs.Grant.{is_grant_length, grant_fits, is_certain, is_order, goes_on_from_day, goes_on_from_instant}
pub use Rattle.rule_periods.specs.Deadline.{DeadlineRowView, kept_filing, with_grant, with_filing, anew, anew_if, has_fitting_grants}
pub use Rattle.rule_periods.specs.Base.{kind_adds, runs_from_service, later_event, base_of}
unfoldable pub use Rattle.rule_periods.specs.Base.{end_of_rule, end_of_length, base_of_period}
pub use Rattle.rule_periods.specs.Due.{runs_from, act_due, extension_due}
pub use Rattle.rule_periods.specs.Extended.{by_days, by_hours, granted, granted_if_it_fits}
unfoldable pub use Rattle.rule_periods.specs.Extended.{extended_of}
pub use Rattle.rule_periods.specs.Showing.{certain_by, access_direction, accessed, is_moved_by_access, shown_end, end_as_set, SetEndsStay, ResetEndsStay}
unfoldable pub use Rattle.rule_periods.specs.Showing.{shown_after, shown_of}
pub use Rattle.rule_periods.specs.Extension.{is_covered_grant, is_beyond, is_never, asks_findings, is_asked_in_time, is_later, is_by_day, is_after_day, is_no_later, fits_end, extension_checks, reset_checks}
unfoldable pub use Rattle.rule_periods.specs.Extension.{extension_refusal, request_refusal, reset_refusal}
pub use Rattle.rule_periods.specs.Notice.{notice_of}
