use Rattle.std.proofs.Common.{◌≡◌, ◌++◌, ◌∷◌, [], ◌+ℤ◌, pos, filter, cond, ap, sym, ◌∙◌, arith, zero-add}
use Rattle.std.proofs.lemmas.List.FromFn.{filter_of_map_range_with_len_more}
use Rattle.court_clock.specs.Words.{days_through}
use Rattle.court_file_check.specs.Review.{days_from, days_that, passes}
use Rattle.court_file_check.proofs.review.days_that.Goals as goal

pub loop-place-preserved : goal.loop-place-preserved
loop-place-preserved c =
    let p = passes c.args.days.now c.args.test in
    let first = c.args.days.now.from in
    let here : c.day_at-day.result ≡ first +ℤ pos c.loop-place.place = c.day_at-day.ensures ∙ ap (λ f. f +ℤ pos c.loop-place.place) c.from-first.ensures.value in
    c.in_ok-push_if.ensures
    ∙ ap (λ ds. ds ++ cond c.passes.result (c.day_at-day.result ∷ []) []) c.loop-place.invariant
    ∙ ap (λ b. filter p (days_from first c.loop-place.place) ++ cond b (c.day_at-day.result ∷ []) []) c.passes.ensures
    ∙ ap (λ d. filter p (days_from first c.loop-place.place) ++ cond (p d) (d ∷ []) []) here
    ∙ sym (filter_of_map_range_with_len_more p (λ k. first +ℤ pos k) 0 c.loop-place.place c.loop-place.place (zero-add c.loop-place.place))

pub returns : goal.returns
unfolding days_that
returns c =
    let count : c.count_through-place-end.result ≡ days_through c.args.days.now.from c.args.days.now.to = c.count_through-place-end.ensures ∙ ap (λ f. days_through f c.to-last.result) c.from-first.ensures.value ∙ ap (λ t. days_through c.args.days.now.from t) c.to-last.ensures.value in
    let all : c.loop-place.place ≡ days_through c.args.days.now.from c.args.days.now.to = omega (arith, c.loop-place-test.false, c.loop-place.auto.place-end, count) in
    c.loop-place.invariant ∙ ap (λ n. filter (passes c.args.days.now c.args.test) (days_from c.args.days.now.from n)) all
