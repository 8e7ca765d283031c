use Rattle.std.proofs.Common.{◌∙◌, ap, sym, arith, ◌++◌, ◌∷◌, [], List}
use Rattle.clerk_seats.specs.Opened.{open_seats}
use Rattle.clerk_seats.specs.Seats.{SeatView}
use Rattle.clerk_seats.proofs.OpenedLemmas.{one_more_seat}
use Rattle.clerk_seats.proofs.office.seats_of.Goals as goal

pub loop-before-preserved : goal.loop-before-preserved
loop-before-preserved g c = record {
  seats =
      c.push_reserved.ensures.items
      ∙ ap (λ (l : List SeatView). l ++ c.open.result ∷ []) (c.reserve.ensures.items ∙ c.loop-before.invariant.seats)
      ∙ ap (λ (s : SeatView). open_seats c.args.limit c.loop-before.before ++ s ∷ []) c.open.ensures
      ∙ sym (one_more_seat c.args.limit c.loop-before.before);
  parts = omega (arith, c.split_off-share.ensures.parts_left, c.loop-before.invariant.parts);
  amount = omega (arith, c.split_off-share.ensures.amount_left, c.loop-before.invariant.amount);
}
