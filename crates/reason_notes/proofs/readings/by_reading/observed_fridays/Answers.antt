use Rattle.std.proofs.Common.{◌∙◌, ap, filter, rules}
use Rattle.std.proofs.lemmas.Fn.{filter_same}
use Rattle.reason_notes.specs.Readings.ByReading.{is_observed_friday}
use Rattle.reason_notes.proofs.readings.by_reading.observed_fridays.Goals as goal

pub returns : goal.returns
returns c =
    filter_same _ _ _ (λ x b f' k. search rules) _ _ c.retain.ensures.filtered
    ∙ ap (filter is_observed_friday) c.in_ok-fridays.ensures.items
