use Rattle.std.proofs.Common.{◌∙◌, ap, filter, map}
use Rattle.std.proofs.lemmas.List.{take_all}
use Rattle.court_holidays.specs.Federal.Words.{closing_view}
use Rattle.court_file_check.specs.Warnings.{is_unsaid, unsaid_closings}
use Rattle.court_file_check.proofs.AnyLemmas.{filter_goes_on}
use Rattle.court_file_check.proofs.warnings.closings.unsaid_closings.Goals as goal

pub loop-closing-preserved : goal.loop-closing-preserved
loop-closing-preserved c =
    filter_goes_on (is_unsaid c.args.days.now c.args.text.now) closing_view c.closed_days-closed.result.now c.loop-closing.closing-index _ _ _ _ c.loop-closing-test.true c.loop-closing.invariant c.is_unsaid.ensures c.in_ok-push_if.ensures

pub returns : goal.returns
unfolding unsaid_closings
returns c =
    let p = is_unsaid c.args.days.now c.args.text.now in
    c.loop-closing.invariant
    ∙ ap (λ all. filter p (map closing_view all)) (take_all c.loop-closing.closing-index c.closed_days-closed.result.now c.loop-closing-test.false)
    ∙ ap (filter p) c.closed_days-closed.ensures
