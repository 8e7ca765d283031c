use Rattle.docket_rows.specs.Words.{facts_in}
use Rattle.docket_core.specs.Words.{parts_held}
use Rattle.docket_selection.specs.Pending.{pending_before, pending_from}
use Rattle.docket_selection.proofs.DueLemmas.{no_number_more, one_number_more}
use Rattle.docket_selection.proofs.pending.push_judges.Goals as goal

pub loop-judge-preserved : goal.loop-judge-preserved
unfolding pending_from
loop-judge-preserved c =
    one_number_more (pending_before c.args.kind c.args.day (facts_in (parts_held c.args.docket.now)) c.args.sheets.now) c.loop-judge.judge c.args.count c.loop-judge.list.items _ _ c.loop-judge-test.true c.in_ok-push_judge.ensures c.loop-judge.invariant

pub returns : goal.returns
unfolding pending_from
returns c = no_number_more (pending_before c.args.kind c.args.day (facts_in (parts_held c.args.docket.now)) c.args.sheets.now) c.loop-judge.judge c.args.count _ _ c.loop-judge-test.false c.loop-judge.invariant
