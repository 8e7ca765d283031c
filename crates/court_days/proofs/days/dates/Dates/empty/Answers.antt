use Rattle.court_days.proofs.DaysLemmas.DatesLemmas.{marked_when_empty}
use Rattle.court_days.proofs.days.dates.Dates.empty.Goals as goal

pub invariant_of-result : goal.invariant_of-result
invariant_of-result c =
    marked_when_empty c.args.first c.new.result.items c.in_ok-from_elem.field-0.items _ c.new.ensures.items (c.in_ok-from_elem.ensures.items_if_clones_equal (λ y same. same))
