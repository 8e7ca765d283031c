use Rattle.std.proofs.Common.{◌∙◌, ◌-◌, List, drop, filter, length, take, ap, sym}
use Rattle.hearing_slots.specs.declared.booking.Booking.{Booking}
use Rattle.hearing_slots.specs.Words.{BlockView, all_in}
use Rattle.docket_decisions.specs.Inside.Holidays.{least_before, sought_test}
use Rattle.docket_decisions.proofs.HolidayLemmas.{first_of_both, first_block}
use Rattle.docket_decisions.proofs.holidays.+least_in_blocks.Goals as goal

pub returns-in-len1-up : goal.returns-in-len1-up
returns-in-len1-up t c =
    let p = sought_test c.args.sought.now c.args.days.now in
    let b : BlockView = c.block-item.result in
    let rest : List BlockView = take (length c.args.blocks.now - 1) (drop 1 c.args.blocks.now) in
    c.least_in.ensures
    ∙ ap (λ (bs : List Booking). least_before (filter p bs) c.least_in_blocks-least.result) c.bookings.ensures
    ∙ ap (least_before (filter p b.bookings)) c.least_in_blocks-least.ensures
    ∙ sym (first_of_both p b.bookings (all_in rest) c.args.other)
    ∙ ap (λ (bs : List Booking). least_before (filter p bs) c.args.other) (first_block c.args.blocks.now b c.in-len1-up.len_at_least c.block-item.is)
