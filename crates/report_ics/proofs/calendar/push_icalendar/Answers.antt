use Rattle.std.proofs.Common.{◌++◌, codes}
use Rattle.std.specs.List.{flat_map}
use Rattle.content_lines.specs.Words.{property}
use Rattle.report_ics.specs.Calendar.{head_lines}
use Rattle.report_ics.specs.Events.{event_lines}
use Rattle.report_ics.proofs.EventLemmas.{line_more, part_more}
use Rattle.report_ics.proofs.calendar.push_icalendar.Goals as goal

pub returns : goal.returns
returns c =
    let events = flat_map (event_lines c.args.court.now c.args.labels.now c.args.stamp) c.args.appointments.now in
    line_more _ _ _ (head_lines ++ events) (property (codes "END") (codes "VCALENDAR"))
    (part_more _ _ _ head_lines events c.in_ok-push_head.ensures c.in_ok-push_events.ensures) c.in_ok-push_property.ensures
