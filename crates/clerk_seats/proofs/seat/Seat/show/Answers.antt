use Rattle.std.proofs.Common.{refl, sym, arith}
use Rattle.std.specs.Vec.{vec_capacity}
use Rattle.left_right.specs.Sides.{view}
use Rattle.clerk_seats.proofs.SeatLemmas.{seat_knows, seat_looked}
use Rattle.clerk_seats.proofs.seat.Seat.show.Goals as goal

pub showed-reader-requires : goal.showed-reader-requires
showed-reader-requires g c =
    seat_knows c.self.invariant (view c.in-Some.reader.place) (rw (sym c.in-Some.ensures.value) at c.self.invariant.there)

pub invariant_of-self : goal.invariant_of-self
invariant_of-self g c =
    seat_looked c.self.invariant c.showed-reader.new.trail (view c.showed-reader.result.0.place) c.self.inside.mine.items (vec_capacity c.self.inside.mine)
    c.showed-reader.ensures.looks refl (omega arith)

pub returns-clause-goes : goal.returns-clause-goes
returns-clause-goes g c = rw (← c.self.view_is) (record { number = refl; limit = refl; seen = c.showed-reader.ensures.looks.later.log })
