use Rattle.std.proofs.Common.{arith}
use Rattle.report_ics.specs.Events.{event_lines}
use Rattle.report_ics.proofs.EventLemmas.{lines_more, no_lines_more}
use Rattle.report_ics.proofs.calendar.push_events.Goals as goal

pub loop-appointment-preserved : goal.loop-appointment-preserved
loop-appointment-preserved c =
    lines_more (event_lines c.args.court.now c.args.labels.now c.args.stamp) c.args.appointments.now c.loop-appointment.appointment-index c.appointment-item.result _ _ _
    c.loop-appointment-test.true c.appointment-item.is c.in_ok-push_event.ensures c.loop-appointment.invariant

pub returns : goal.returns
returns c =
    no_lines_more (event_lines c.args.court.now c.args.labels.now c.args.stamp) c.args.appointments.now c.loop-appointment.appointment-index _ _
    (omega (arith, c.loop-appointment-test.false)) c.loop-appointment.invariant
