use Rattle.std.proofs.Common.{◌∙◌, List, filter, ap, sym}
use Rattle.hearing_slots.specs.declared.booking.Booking.{Booking}
use Rattle.hearing_slots.specs.Words.{all_in}
use Rattle.docket_decisions.specs.Inside.Holidays.{least_before, sought_test}
use Rattle.docket_decisions.proofs.HolidayLemmas.{first_of_both}
use Rattle.docket_decisions.proofs.holidays.least_in_shared.Goals as goal

pub returns : goal.returns
returns c =
    let p = sought_test c.args.sought.now c.args.days.now in
    c.least_in_blocks.ensures
    ∙ ap (least_before (filter p (all_in c.parts.result.0.now))) c.least_in-least.ensures
    ∙ sym (first_of_both p (all_in c.parts.result.0.now) c.parts.result.1.now c.args.other)
    ∙ ap (λ (bs : List Booking). least_before (filter p bs) c.args.other) c.parts.ensures.value
