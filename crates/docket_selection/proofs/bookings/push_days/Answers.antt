use Rattle.std.proofs.Common.{◌++◌, ◌∙◌, ap, option_to_list}
use Rattle.docket_selection.specs.Bookings.{day_of_week, days_of_week}
use Rattle.docket_selection.proofs.DueLemmas.{no_number_more, one_number_more}
use Rattle.docket_selection.proofs.bookings.push_days.Goals as goal

pub loop-place-preserved : goal.loop-place-preserved
unfolding days_of_week
loop-place-preserved c =
    one_number_more (λ place. option_to_list (day_of_week c.args.day place)) c.loop-place.place c.args.count c.loop-place.days.items _ _ c.loop-place-test.true
    (c.in_ok-push_if.ensures ∙ ap (λ d. c.loop-place.days.items ++ option_to_list d) c.day_of_week.ensures) c.loop-place.invariant

pub returns : goal.returns
unfolding days_of_week
returns c = no_number_more (λ place. option_to_list (day_of_week c.args.day place)) c.loop-place.place c.args.count _ _ c.loop-place-test.false c.loop-place.invariant
