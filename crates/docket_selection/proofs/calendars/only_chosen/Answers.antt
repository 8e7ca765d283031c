use Rattle.std.proofs.Common.{◌∙◌, rules, ap}
use Rattle.std.specs.Prelude.{filter}
use Rattle.std.proofs.lemmas.Fn.{filter_same}
use Rattle.docket_selection.specs.Calendars.{is_booking_chosen}
use Rattle.docket_selection.proofs.calendars.only_chosen.Goals as goal

pub returns : goal.returns
returns c = filter_same _ _ _ (λ x b f' k. search rules) _ _ c.retain.ensures.filtered ∙ ap (filter (is_booking_chosen c.args.choice.now)) c.in_ok-list.ensures.items
