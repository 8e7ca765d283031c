use Rattle.std.proofs.Common.{◌≡◌, ◌∙◌, not, subst, sym}
use Rattle.std.specs.List.{IsDistinct}
use Rattle.std.specs.Ordering.{int_eq}
use Rattle.court_days.specs.Days.{drop_dates, is_among}
use Rattle.court_days.proofs.DaysLemmas.DatesLemmas.{distinct_kept}
use Rattle.court_days.proofs.days.dates.Dates.without.Goals as goal

pub of-requires : goal.of-requires
of-requires c =
    let days = c.self.inside.days.items in
    let kept : c.as_slice.result.now ≡ drop_dates c.args.dropped.now days = c.as_slice.ensures.value ∙ (rw c.deref.ensures.value at c.in_ok-kept.ensures) in
    subst (IsDistinct int_eq) (sym kept) (distinct_kept (λ d. not (is_among c.args.dropped.now d)) days c.self.invariant.distinct)
