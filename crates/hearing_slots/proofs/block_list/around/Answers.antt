use Rattle.std.proofs.Common.{◌∙◌, ap, refl}
use Rattle.hearing_slots.specs.Inside.Blocks.{BlockView, block_of}
use Rattle.hearing_slots.specs.Calendar.{on_day}
use Rattle.hearing_slots.proofs.BlockLemmas.{on_day-at, on_day-gap}
use Rattle.hearing_slots.proofs.block_list.around.Goals as goal

pub returns-in-Ok : goal.returns-in-Ok
returns-in-Ok c =
    ap (on_day c.args.day) (c.agenda.ensures ∙ ap (λ (b : BlockView). b.bookings) c.index-blocks-place.is)
    ∙ on_day-at c.args.blocks.now (block_of c.args.day) c.in-Ok.place c.requires c.index-blocks-place.result c.args.day c.in-Ok.ensures.found refl

pub returns-in-Err : goal.returns-in-Err
returns-in-Err c = on_day-gap c.args.blocks.now (block_of c.args.day) c.in-Err.field-0 c.requires c.args.day c.in-Err.ensures.absent refl
