use Rattle.std.proofs.Common.{codes}
use Rattle.content_lines.specs.Words.{property}
use Rattle.report_ics.specs.Calendar.{head_lines}
use Rattle.report_ics.proofs.EventLemmas.{three_lines}
use Rattle.report_ics.proofs.calendar.push_head.Goals as goal

pub returns : goal.returns
unfolding head_lines
returns c =
    three_lines _ _ _ _ (property (codes "BEGIN") (codes "VCALENDAR")) (property (codes "VERSION") (codes "2.0")) (property (codes "PRODID") (codes "-//Jerghuma//docket//EN"))
    c.in_ok-push_property.ensures c.in_ok-push_property-2.ensures c.in_ok-push_property-3.ensures
