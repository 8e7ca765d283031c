use Rattle.std.specs.Arc.{arc_value}
use Rattle.court_days.proofs.DaysLemmas.EntryLemmas.{holiday-outages}
use Rattle.court_days.proofs.days.Days.with_holiday.Goals as goal

pub returns : goal.returns
returns c =
    let held = arc_value c.self.inside.held in
    rw (c.in_ok-new.ensures.ok, c.in_ok-with.ensures, c.in_ok-clone.ensures.cases, c.deref-held.ensures, ← c.self.view_is) (holiday-outages held.holidays (arc_value held.outages) c.args.list c.args.day)
