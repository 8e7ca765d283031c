use Rattle.std.proofs.Common.{◌∙◌, ap, filter, not, rules}
use Rattle.std.proofs.lemmas.Fn.{filter_same}
use Rattle.court_days.specs.Days.{is_among}
use Rattle.court_days.proofs.days.dates.kept_of.Goals as goal

pub returns : goal.returns
returns c =
    filter_same _ _ _ (λ x b f' k. search rules) _ _ c.retain.ensures.filtered
    ∙ ap (filter (λ d. not (is_among c.args.dropped.now d))) c.in_ok-kept.ensures.items
