use Rattle.std.proofs.Common.{◌≡◌, ◌<◌, ◌∙◌, Some, length, sym, ap, arith}
use Rattle.std.specs.Vec.{vec_capacity}
use Rattle.left_right.specs.Sides.{view}
use Rattle.versioned_steps.specs.Words.{IsReadAll, decided}
use Rattle.versioned_steps.proofs.CallerLemmas.{reading_done}
use Rattle.shared_docket.specs.Words.{docket_rules}
use Rattle.published_docket.specs.Words.{HasRead}
use Rattle.clerk_seats.specs.Finished.{DocketDraft}
use Rattle.clerk_seats.proofs.SeatLemmas.{seat_knows, seat_looked, seat_drafted}
use Rattle.clerk_seats.proofs.seat.Seat.draw.Goals as goal

pub looked-reader-requires : goal.looked-reader-requires
looked-reader-requires g c =
    seat_knows c.self.invariant (view c.in-Some.reader.place) (rw (sym c.in-Some.ensures.value) at c.self.invariant.there)

pub decide-requires : goal.decide-requires
decide-requires g c =
    let read : HasRead g.L.NamesOffice.setup c.looked-reader.new.trail.log c.in-Some-Ok.draft = rw (c.in-Some-Ok.is, c.in-Some-Ok.field-0-is) at c.looked-reader.ensures.read in
    rw c.self.invariant.court_is read.whole

pub invariant_of-self-in-Ok-decide : goal.invariant_of-self-in-Ok-decide
invariant_of-self-in-Ok-decide g c =
    let setup = g.L.NamesOffice.setup in
    let drafted = c.in-Some-Ok.draft in
    let d = c.in-Ok-decide.draft in
    let clerk : drafted.clerk ≡ c.from-clerk.result = rw (c.in-Some-Ok.is, c.in-Some-Ok.field-0-is) at c.looked-reader.ensures.clerk in
    let has : HasRead setup c.looked-reader.new.trail.log drafted = rw (c.in-Some-Ok.is, c.in-Some-Ok.field-0-is) at c.looked-reader.ensures.read in
    let made : d ≡ record drafted { decision = Some (decided (docket_rules setup) drafted.command drafted.reads) } = rw c.self.invariant.court_is at c.in-Ok-decide.ensures in
    let read : IsReadAll (docket_rules setup) c.looked-reader.new.trail.log d = reading_done (docket_rules setup) c.looked-reader.new.trail.log drafted d has.reading has.whole made in
    let room : length c.reserve.new.self.items < vec_capacity c.reserve.new.self = omega (arith, c.in-Ok.ensures.ok, c.reserve.new.self.ok) in
    seat_drafted c.self.invariant c.looked-reader.new.trail (view c.looked-reader.result.0.place) c.reserve.new.self.items (vec_capacity c.reserve.new.self)
    c.looked-reader.ensures.looks c.reserve.ensures.items d (record { prepared = read.prepared; clerk = ap (λ (x : DocketDraft). x.clerk) made ∙ clerk ∙ c.from-clerk.ensures; room = room })

pub invariant_of-self-in-Some-Err : goal.invariant_of-self-in-Some-Err
invariant_of-self-in-Some-Err g c =
    seat_looked c.self.invariant c.looked-reader.new.trail (view c.looked-reader.result.0.place) c.reserve.new.self.items (vec_capacity c.reserve.new.self)
    c.looked-reader.ensures.looks c.reserve.ensures.items c.reserve.ensures.capacity

pub invariant_of-self-in-None : goal.invariant_of-self-in-None
invariant_of-self-in-None g c =
    seat_looked c.self.invariant c.looked-reader.new.trail (view c.looked-reader.result.0.place) c.reserve.new.self.items (vec_capacity c.reserve.new.self)
    c.looked-reader.ensures.looks c.reserve.ensures.items c.reserve.ensures.capacity

pub invariant_of-self-in-Err : goal.invariant_of-self-in-Err
invariant_of-self-in-Err g c =
    seat_looked c.self.invariant c.looked-reader.new.trail (view c.looked-reader.result.0.place) c.reserve.new.self.items (vec_capacity c.reserve.new.self)
    c.looked-reader.ensures.looks c.reserve.ensures.items c.reserve.ensures.capacity
