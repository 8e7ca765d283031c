use Rattle.std.proofs.Common.{◌≡◌, ◌++◌, drop, string_bytes}
use Rattle.std.specs.List.{flat_map}
use Rattle.content_lines.specs.Words.{sent}
use Rattle.report_ics.specs.Events.{event_lines}
use Rattle.report_ics.proofs.calendar.push_events.Given as goal

-- the events so far, and those that are left, are all
abbrev pub invariant-loop-appointment : goal.invariant-loop-appointment
invariant-loop-appointment l = string_bytes l.text ++ sent (flat_map (event_lines l.court l.labels l.stamp) (drop l.appointment-index l.appointments)) ≡ string_bytes l.fn.text ++ sent (flat_map (event_lines l.court l.labels l.stamp) l.appointments)
