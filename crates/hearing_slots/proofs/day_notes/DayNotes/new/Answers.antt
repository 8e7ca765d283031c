use Rattle.std.proofs.Common.{◌≡◌, [], ◌∙◌, ap, length, arith, replicate}
use Rattle.std.proofs.lemmas.List.{length-replicate}
use Rattle.hearing_slots.proofs.day_notes.DayNotes.new.Goals as goal

pub invariant_of-result : goal.invariant_of-result
invariant_of-result c =
    let all : c.loop-number._number ≡ 16 = omega (arith, c.loop-number-test.false, c.loop-number.auto._number-end) in
    let items : c.loop-number.shards.items ≡ replicate c.loop-number._number [] = c.loop-number.invariant in
    ap length items ∙ length-replicate c.loop-number._number [] ∙ all
