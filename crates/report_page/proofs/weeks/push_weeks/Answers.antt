use Rattle.docket_selection.proofs.CallerLemmas.{no_number_more, one_number_more}
use Rattle.report_page.specs.Weeks.{month_weeks, week_if_in}
use Rattle.report_page.proofs.weeks.push_weeks.Goals as goal

pub loop-week-preserved : goal.loop-week-preserved
unfolding month_weeks
loop-week-preserved c =
    one_number_more (week_if_in c.args.labels.now c.args.bookings.now c.args.first) c.loop-week.week c.args.count c.loop-week.page _ _ c.loop-week-test.true c.in_ok-push_week_if_in.ensures c.loop-week.invariant

pub returns : goal.returns
unfolding month_weeks
returns c = no_number_more (week_if_in c.args.labels.now c.args.bookings.now c.args.first) c.loop-week.week c.args.count _ _ c.loop-week-test.false c.loop-week.invariant
