use Rattle.std.proofs.Common.{codes}
use Rattle.std.specs.Prelude.{pos, ◌+ℤ◌}
use Rattle.content_lines.specs.Words.{date_digits, property}
use Rattle.report_ics.specs.Events.{day_lines}
use Rattle.report_ics.proofs.EventLemmas.{three_lines}
use Rattle.report_ics.proofs.events.push_whole_day.Goals as goal

pub returns : goal.returns
unfolding day_lines
returns c =
    three_lines _ _ _ _ (property (codes "DTSTART;VALUE=DATE") (date_digits c.args.day)) (property (codes "DTEND;VALUE=DATE") (date_digits (c.args.day +ℤ pos 1)))
    (property (codes "TRANSP") (codes "TRANSPARENT")) c.in_ok-push_first_day.ensures c.in_ok-push_next_day.ensures c.in_ok-push_property.ensures
