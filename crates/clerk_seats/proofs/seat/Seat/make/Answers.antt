use Rattle.std.proofs.Common.{◌≡◌, ◌++◌, ◌∷◌, [], ◌∙◌, List, ℕ, Ok, Err, refl, ap, arith}
use Rattle.std.specs.Vec.{vec_capacity}
use Rattle.std.proofs.lemmas.Result.{err_from_is_err_and}
use Rattle.clerk_seats.proofs.SeatLemmas.{seat_made, seat_dropped, seat_idle, makes_later, performs_nothing}
use Rattle.clerk_seats.proofs.seat.Seat.make.Goals as goal

pub invariant_of-self : goal.invariant_of-self
invariant_of-self g c =
    seat_idle c.self.invariant c.reserve.new.self.items (vec_capacity c.reserve.new.self) c.reserve.ensures.items

pub returns-in_err-reserve : goal.returns-in_err-reserve
returns-in_err-reserve g c =
    let p = err_from_is_err_and c.from_residual.result c.from_residual.ensures.1 in
    rw (← c.self.view_is) (performs_nothing g.L.NamesOffice.setup _ _ c.args.command.now _ c.self.invariant.seen.legal (p.1 ∙ ap Err p.2) refl refl refl c.reserve.ensures.items refl)

pub invariant_of-self-in-Ok : goal.invariant_of-self-in-Ok
invariant_of-self-in-Ok g c =
    let makes = c.in-Ok.ensures.makes in
    let pushed = c.push_reserved.ensures.items ∙ ap (λ (l : List ℕ). l ++ c.in-Ok.finished.place ∷ []) c.reserve.ensures.items in
    seat_made c.self.invariant c.made-result.new.seen c.made-result.new.share.parts c.made-result.new.share.amount c.push_reserved.new.self.items (vec_capacity c.push_reserved.new.self) c.self.inside.limit c.in-Ok.finished c.from-clerk.result c.args.command.now makes.before
    c.made-result.ensures.book makes.legal c.from-clerk.ensures makes.later makes.makes c.made-result.ensures.parts c.in-Ok.ensures.amount pushed

pub invariant_of-self-in-Err : goal.invariant_of-self-in-Err
invariant_of-self-in-Err g c =
    let told = rw c.in-Err.is at c.made-result.ensures.amount in
    let counts : c.made-result.new.share.amount ≡ c.self.inside.share.amount = omega (arith, told) in
    let begins = makes_later g.L.NamesOffice.setup c.self.inside.trail.log c.self.inside.limit c.from-clerk.result c.args.command.now c.made-result.result c.made-result.new.seen.log c.made-result.ensures.makes in
    seat_dropped c.self.invariant c.made-result.new.seen c.made-result.new.share.parts c.made-result.new.share.amount c.reserve.new.self.items (vec_capacity c.reserve.new.self) c.made-result.ensures.book c.made-result.ensures.makes.legal begins c.made-result.ensures.parts counts c.reserve.ensures.items

pub returns-in-Ok : goal.returns-in-Ok
returns-in-Ok g c =
    let setup = g.L.NamesOffice.setup in
    let pushed = c.push_reserved.ensures.items ∙ ap (λ (l : List ℕ). l ++ c.in-Ok.finished.place ∷ []) c.reserve.ensures.items in
    let begins = makes_later setup c.self.inside.trail.log c.self.inside.limit c.from-clerk.result c.args.command.now (Ok c.in-Ok.finished) c.made-result.new.seen.log c.in-Ok.ensures.makes in
    rw (← c.self.view_is) (record {
      goes = record { number = refl; limit = refl; seen = begins };
      makes = rw c.from-clerk.ensures at c.in-Ok.ensures.makes;
      mine = pushed;
      draft = refl;
    })

pub returns-in-Err : goal.returns-in-Err
returns-in-Err g c =
    let setup = g.L.NamesOffice.setup in
    let makes = rw c.in-Err.is at c.made-result.ensures.makes in
    let begins = makes_later setup c.self.inside.trail.log c.self.inside.limit c.from-clerk.result c.args.command.now (Err c.in-Err.error) c.made-result.new.seen.log makes in
    rw (← c.self.view_is) (record {
      goes = record { number = refl; limit = refl; seen = begins };
      makes = rw c.from-clerk.ensures at makes;
      mine = c.reserve.ensures.items;
      draft = refl;
    })
