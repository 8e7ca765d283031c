use Rattle.std.proofs.Common.{◌≡◌, ◌∙◌, ℤ, Some, None, List, ap, arith, subst, sym}
use Rattle.std.proofs.lemmas.Int.{ints}
use Rattle.hearing_slots.specs.Inside.Blocks.{BlockView, LiesIn, all_in, block_of}
use Rattle.hearing_slots.specs.Inside.DayNotes.{booked_day}
use Rattle.hearing_slots.proofs.BlockDays.{LiesIn-absent, LiesIn-booked, LiesIn-without}
use Rattle.hearing_slots.proofs.blocks.Blocks.others.Goals as goal

pub returns-in_default-clause-older : goal.returns-in_default-clause-older
returns-in_default-clause-older c =
    let same = c.in_ok-blocks.ensures ∙ c.deref.ensures.value in
    let none : booked_day c.args.case c.args.motion (all_in c.self.inside.blocks.items) ≡ None = ap (booked_day c.args.case c.args.motion) c.self.view_is ∙ sym c.day_of.ensures ∙ c.in_default.is in
    subst (λ (bs : List BlockView). LiesIn (block_of c.args.day) c.args.case c.args.motion (all_in bs)) (sym same) (LiesIn-absent (block_of c.args.day) c.args.case c.args.motion (all_in c.self.inside.blocks.items) none)

pub returns-then-block_of-clause-older : goal.returns-then-block_of-clause-older
returns-then-block_of-clause-older c =
    let same = c.in_ok-blocks.ensures ∙ c.deref.ensures.value in
    let old = c.in-Some.old_day in
    let day : booked_day c.args.case c.args.motion (all_in c.self.inside.blocks.items) ≡ Some old = ap (booked_day c.args.case c.args.motion) c.self.view_is ∙ sym c.day_of.ensures ∙ c.in-Some.is in
    let block : c.block_of.result ≡ c.block_of-2.result = omega (arith, ints, c.if-block_of.true, c.block_of.type_inv, c.block_of-2.type_inv) in
    subst (λ (bs : List BlockView). LiesIn (block_of c.args.day) c.args.case c.args.motion (all_in bs)) (sym same) (subst (λ (n : ℤ). LiesIn n c.args.case c.args.motion (all_in c.self.inside.blocks.items)) (sym c.block_of.ensures ∙ block ∙ c.block_of-2.ensures) (LiesIn-booked c.args.case c.args.motion (all_in c.self.inside.blocks.items) old c.self.invariant.1 day))

pub take_out-requires-clause-gone : goal.take_out-requires-clause-gone
take_out-requires-clause-gone c =
    let same = c.in_ok-blocks.ensures ∙ c.deref.ensures.value in
    let old = c.in-Some.old_day in
    let day : booked_day c.args.case c.args.motion (all_in c.self.inside.blocks.items) ≡ Some old = ap (booked_day c.args.case c.args.motion) c.self.view_is ∙ sym c.day_of.ensures ∙ c.in-Some.is in
    subst (λ (bs : List BlockView). LiesIn (block_of old) c.args.case c.args.motion (all_in bs)) (sym same) (LiesIn-booked c.args.case c.args.motion (all_in c.self.inside.blocks.items) old c.self.invariant.1 day)

pub returns-clause-older : goal.returns-clause-older
returns-clause-older c =
    subst (LiesIn (block_of c.args.day) c.args.case c.args.motion) (sym c.in_ok-take_out.ensures.all) (LiesIn-without (block_of c.args.day) c.args.case c.args.motion (all_in c.in_ok-blocks.blocks.items))
