use Rattle.std.proofs.Common.{◌∙◌, ap, subst, sym}
use Rattle.hearing_slots.specs.Calendar.{without_motion}
use Rattle.hearing_slots.specs.Inside.Blocks.{BlockView, LiesIn, block_of}
use Rattle.hearing_slots.proofs.BlockLemmas.{taken_all, taken_blocks}
use Rattle.hearing_slots.proofs.block_list.take_out.Goals as goal

pub returns-clause-blocks : goal.returns-clause-blocks
returns-clause-blocks c =
    let is = c.in_ok-changed.ensures ∙ ap (λ (x : BlockView). record x { bookings = without_motion c.args.case c.args.motion x.bookings }) c.index.ensures in
    taken_blocks c.place_for.new.blocks.items (block_of c.args.day) c.in_ok-place.place c.in_ok-place.ensures.blocks c.index.result.now c.in_ok-place.ensures.place c.args.case c.args.motion c.in_ok-changed.changed is

pub returns-clause-all : goal.returns-clause-all
returns-clause-all c =
    let all = c.in_ok-place.ensures.same in
    let is = c.in_ok-changed.ensures ∙ ap (λ (x : BlockView). record x { bookings = without_motion c.args.case c.args.motion x.bookings }) c.index.ensures in
    let lies = subst (LiesIn (block_of c.args.day) c.args.case c.args.motion) (sym all) c.requires.gone in
    taken_all c.place_for.new.blocks.items (block_of c.args.day) c.in_ok-place.place c.in_ok-place.ensures.blocks c.index.result.now c.in_ok-place.ensures.place c.args.case c.args.motion c.in_ok-changed.changed lies is
    ∙ ap (without_motion c.args.case c.args.motion) all
