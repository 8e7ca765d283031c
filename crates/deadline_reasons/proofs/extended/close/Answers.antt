use Rattle.deadline_reasons.proofs.extended.close.Goals as goal

pub returns-in-OnDay : goal.returns-in-OnDay
returns-in-OnDay c = rw (c.in-Some.is, c.in-OnDay.is) c.close_on.ensures

pub returns-in-AtInstant : goal.returns-in-AtInstant
returns-in-AtInstant c = rw (c.in-Some.is, c.in-AtInstant.is) c.close_at.ensures
