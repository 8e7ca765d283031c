use Rattle.std.proofs.Common.{arith}
use Rattle.docket_decisions.specs.Inside.Holidays.{sought_test}
use Rattle.docket_decisions.proofs.HolidayLemmas.{more_judges}
use Rattle.docket_decisions.proofs.holidays.least_booked.Goals as goal

pub loop-judge-preserved : goal.loop-judge-preserved
loop-judge-preserved g c = record {
  within = omega arith;
  least = more_judges (sought_test c.args.sought.now c.args.days.now) (g.S.Sight.parts c.args.sight.now).judge c.loop-judge.judge _ c.loop-judge.least _ _ (omega arith) c.loop-judge.invariant.within c.judge-calendar.ensures c.loop-judge.invariant.least c.least_in_calendar-least.ensures;
}
