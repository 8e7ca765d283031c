use Rattle.std.proofs.Common.{sym, ◌∙◌}
use Rattle.court_clock.proofs.DayLemmas.TextLemmas.{reads}
use Rattle.court_clock.proofs.day.Day.from_text.Goals as goal

pub returns : goal.returns
returns c = reads c.args.text.now c.in_ok-date.date c.day_of.result (sym c.is_spelled_by.ensures ∙ c.if-not-is_spelled_by.false) c.day_of.ensures.some c.day_of.ensures.value
