use Rattle.std.proofs.Common.{arith}
use Rattle.court_days.proofs.DaysLemmas.DatesLemmas.{all_dates, one_date_more}
use Rattle.court_days.proofs.days.dates.Dates.of.Goals as goal

pub loop-day-preserved : goal.loop-day-preserved
loop-day-preserved c =
    one_date_more c.args.days.now c.loop-day.dates c.add.new.self c.loop-day.day-index c.day-item.result c.requires c.loop-day-test.true c.day-item.is c.loop-day.invariant c.in_ok-add.ensures.ok

pub returns : goal.returns
returns c = all_dates c.args.days.now c.loop-day.dates c.loop-day.day-index (omega (arith, c.loop-day-test.false)) c.loop-day.invariant
