use Rattle.docket_selection.specs.Calendars.{calendar_chosen, calendars_from}
use Rattle.docket_selection.proofs.DueLemmas.{no_number_more, one_number_more}
use Rattle.docket_selection.proofs.calendars.push_calendars.Goals as goal

pub loop-judge-preserved : goal.loop-judge-preserved
unfolding calendars_from
loop-judge-preserved c = λ docketed stands.
    one_number_more (calendar_chosen c.args.docket.now.setup docketed c.args.choice.now) c.loop-judge.judge c.args.count c.loop-judge.list.items _ _ c.loop-judge-test.true
    (c.in_ok-push_calendar.ensures docketed stands) (c.loop-judge.invariant docketed stands)

pub returns : goal.returns
unfolding calendars_from
returns c = λ docketed stands.
    no_number_more (calendar_chosen c.args.docket.now.setup docketed c.args.choice.now) c.loop-judge.judge c.args.count _ _ c.loop-judge-test.false (c.loop-judge.invariant docketed stands)
