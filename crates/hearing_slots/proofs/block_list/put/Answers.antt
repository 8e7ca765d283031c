use Rattle.std.proofs.Common.{◌∙◌, Some, List, ap, refl, subst, sym}
use Rattle.hearing_slots.specs.declared.booking.Booking.{Booking}
use Rattle.hearing_slots.specs.Calendar.{IsFree, with_booking}
use Rattle.hearing_slots.specs.Inside.Blocks.{BlockView, LiesIn, block_of}
use Rattle.hearing_slots.proofs.BlockLemmas.{free_at, put_all, put_blocks}
use Rattle.hearing_slots.proofs.block_list.put.Goals as goal

pub with-requires-clause-free : goal.with-requires-clause-free
with-requires-clause-free c =
    let b = c.args.booking in
    let bs = c.place_for.new.blocks.items in
    let place = c.in_ok-place.place in
    let all = c.in_ok-place.ensures.same in
    let free = subst (λ (bookings : List Booking). IsFree bookings b.day b.first b.count (Some (b.case, b.motion))) (sym all) c.requires.free in
    subst (λ (x : BlockView). IsFree x.bookings b.day b.first b.count (Some (b.case, b.motion))) (sym c.index.ensures) (free_at bs (block_of c.args.booking.day) place c.in_ok-place.ensures.blocks c.index.result.now c.in_ok-place.ensures.place b.day b.first b.count (Some (b.case, b.motion)) free)

pub returns-clause-blocks : goal.returns-clause-blocks
returns-clause-blocks c =
    let b = c.args.booking in
    let is = c.in_ok-changed.ensures ∙ ap (λ (x : BlockView). record x { bookings = with_booking b x.bookings }) c.index.ensures in
    put_blocks c.place_for.new.blocks.items (block_of c.args.booking.day) c.in_ok-place.place c.in_ok-place.ensures.blocks c.index.result.now c.in_ok-place.ensures.place b c.in_ok-changed.changed refl is

pub returns-clause-all : goal.returns-clause-all
returns-clause-all c =
    let b = c.args.booking in
    let all = c.in_ok-place.ensures.same in
    let is = c.in_ok-changed.ensures ∙ ap (λ (x : BlockView). record x { bookings = with_booking b x.bookings }) c.index.ensures in
    let lies = subst (LiesIn (block_of b.day) b.case b.motion) (sym all) c.requires.older in
    put_all c.place_for.new.blocks.items (block_of c.args.booking.day) c.in_ok-place.place c.in_ok-place.ensures.blocks c.index.result.now c.in_ok-place.ensures.place b c.in_ok-changed.changed refl lies is
    ∙ ap (with_booking b) all
