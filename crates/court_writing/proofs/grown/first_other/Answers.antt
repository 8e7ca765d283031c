use Rattle.std.proofs.Common.{◌≡◌, ◌≤◌, ◌+ℤ◌, pos, ap, ◌∙◌, arith}
use Rattle.court_clock.specs.Words.{days_through}
use Rattle.court_writing.specs.Update.{IsKept}
use Rattle.court_writing.proofs.SpanLemmas.{of_each, one_more}
use Rattle.court_writing.proofs.grown.first_other.Goals as goal

pub loop-place-preserved : goal.loop-place-preserved
loop-place-preserved c =
    let here : c.day_at-day.result ≡ c.args.days.now.from +ℤ pos c.loop-place.place = c.day_at-day.ensures ∙ ap (λ f. f +ℤ pos c.loop-place.place) c.from-first.ensures.value in
    one_more (IsKept c.args.state c.args.before.now c.args.days.now) c.args.days.now.from c.day_at-day.result c.loop-place.place here c.loop-place.invariant (c.is_kept.ensures c.if-not-is_kept.false)

pub returns : goal.returns
returns c =
    let count : c.count_through-place-end.result ≡ days_through c.args.days.now.from c.args.days.now.to = c.count_through-place-end.ensures ∙ ap (λ f. days_through f c.to-last.result) c.from-first.ensures.value ∙ ap (λ t. days_through c.args.days.now.from t) c.to-last.ensures.value in
    let all : days_through c.args.days.now.from c.args.days.now.to ≤ c.loop-place.place = omega (arith, c.loop-place-test.false, count) in
    λ _. of_each (IsKept c.args.state c.args.before.now c.args.days.now) c.args.days.now.from c.args.days.now.to c.loop-place.place all c.loop-place.invariant
