use Rattle.std.proofs.Common.{◌∙◌, ◌++◌, ℕ, List, string_bytes, ap}
use Rattle.std.proofs.lemmas.Result.{on_ok_weaker}
use Rattle.docket_core.specs.Words.{parts_held}
use Rattle.desk_warnings.proofs.StartLemmas.{start_warned}
use Rattle.desk_warnings.proofs.start.push_start.Goals as goal

pub returns : goal.returns
returns c = λ setup made.
    on_ok_weaker c.push_on_view.result
    (λ told. told ∙ ap (λ (t : List ℕ). string_bytes c.args.text.now ++ t)
    (start_warned c.args.court.now c.args.moved.now (parts_held c.args.docket.now) c.args.today c.args.case c.args.period.now c.args.event.now c.args.second.now c.args.service.now c.args.docket.now.setup c.days-days.result.now c.in_ok-view.view c.row_started-row.result setup c.days-days.ensures c.in_ok-view.ensures.view c.row_started-row.ensures.some c.row_started-row.ensures.none made))
    c.push_on_view.ensures
