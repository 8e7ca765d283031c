use Rattle.std.proofs.Common.{string_bytes, subst}
use Rattle.std.specs.Str.{IsUtf8}
use Rattle.report_ics.specs.Calendar.{icalendar_lines}
use Rattle.report_ics.proofs.EventLemmas.{short_text}
use Rattle.report_ics.proofs.calendar.icalendar.Goals as goal

pub returns-clause-short : goal.returns-clause-short
returns-clause-short c =
    short_text (string_bytes c.push_icalendar.new.text) (string_bytes c.new-text.result) (icalendar_lines c.args.court.now c.args.labels.now c.args.stamp c.args.appointments.now)
    c.new-text.ensures.bytes c.in_ok-push_icalendar.ensures (subst IsUtf8 c.as_str-text.ensures.value c.as_str-text.utf8)
