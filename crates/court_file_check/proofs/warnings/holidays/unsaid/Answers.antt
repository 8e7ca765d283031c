use Rattle.std.proofs.Common.{◌++◌, ◌∷◌, ◌∙◌, [], ap, cond, filter, sym, take}
use Rattle.std.proofs.lemmas.List.{take_all}
use Rattle.court_file_check.specs.Warnings.{is_day_unsaid}
use Rattle.court_file_check.proofs.AnyLemmas.{filter_taken}
use Rattle.court_file_check.proofs.warnings.holidays.unsaid.Goals as goal

pub loop-day-preserved : goal.loop-day-preserved
loop-day-preserved c =
    let p = is_day_unsaid c.args.text.now in
    let so_far = filter p (take c.loop-day.day-index c.args.days.now) in
    c.in_ok-push_if.ensures
    ∙ ap (λ found. found ++ cond c.in_ok-is_unsaid.is_unsaid (c.day-item.result ∷ []) []) c.loop-day.invariant
    ∙ ap (λ b. so_far ++ cond b (c.day-item.result ∷ []) []) c.in_ok-is_unsaid.ensures
    ∙ sym (filter_taken p c.args.days.now c.loop-day.day-index c.day-item.result c.loop-day-test.true c.day-item.is)

pub returns : goal.returns
returns c =
    c.loop-day.invariant
    ∙ ap (filter (is_day_unsaid c.args.text.now)) (take_all c.loop-day.day-index c.args.days.now c.loop-day-test.false)
