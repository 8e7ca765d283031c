use Rattle.report_ics.proofs.LineLemmas.{calendars_are_sent_whole}
use Rattle.report_ics.proofs.laws.calendars_are_sent_whole.Goals as goal

pub returns : goal.returns
returns c = calendars_are_sent_whole
