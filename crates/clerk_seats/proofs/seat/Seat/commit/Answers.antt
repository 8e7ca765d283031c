use Rattle.std.proofs.Common.{◌≡◌, Option, Some, Ok, refl, sym, subst, arith}
use Rattle.std.specs.Vec.{vec_capacity}
use Rattle.clerk_seats.specs.Finished.{DocketDraft}
use Rattle.clerk_seats.specs.Seats.{DraftCommits}
use Rattle.clerk_seats.proofs.SeatLemmas.{seat_finished, seat_dropped, seat_kept, settles_later}
use Rattle.clerk_seats.proofs.seat.Seat.commit.Goals as goal

pub invariant_of-self : goal.invariant_of-self
invariant_of-self g c =
    let drafted : c.self.inside.draft ≡ Some c.in-Some.draft = cc (c.in-Some.is) in
    seat_finished c.self.invariant c.settled-result.new.seen c.settled-result.new.share.parts c.settled-result.new.share.amount c.push_reserved.new.self.items (vec_capacity c.push_reserved.new.self) c.self.inside.limit c.in-Ok.done c.in-Some.draft
    c.settled-result.ensures.book drafted c.in-Ok.ensures.settles c.settled-result.ensures.parts c.in-Ok.ensures.amount c.push_reserved.ensures.items

pub invariant_of-self-in-Err-Stale : goal.invariant_of-self-in-Err-Stale
invariant_of-self-in-Err-Stale g c =
    let told = rw c.in-Err-Stale.is at c.settled-result.ensures.amount in
    let counts : c.settled-result.new.share.amount ≡ c.self.inside.share.amount = omega (arith, told) in
    let begins = settles_later g.L.NamesOffice.setup c.self.inside.trail.log c.self.inside.limit c.in-Some.draft c.settled-result.result c.settled-result.new.seen.log c.settled-result.ensures.settles in
    seat_dropped c.self.invariant c.settled-result.new.seen c.settled-result.new.share.parts c.settled-result.new.share.amount c.self.inside.mine.items (vec_capacity c.self.inside.mine) c.settled-result.ensures.book c.settled-result.ensures.settles.legal begins c.settled-result.ensures.parts counts refl

pub invariant_of-self-in-Err-JournalFull : goal.invariant_of-self-in-Err-JournalFull
invariant_of-self-in-Err-JournalFull g c =
    let told = rw c.in-Err-JournalFull.is at c.settled-result.ensures.amount in
    let counts : c.settled-result.new.share.amount ≡ c.self.inside.share.amount = omega (arith, told) in
    let begins = settles_later g.L.NamesOffice.setup c.self.inside.trail.log c.self.inside.limit c.in-Some.draft c.settled-result.result c.settled-result.new.seen.log c.settled-result.ensures.settles in
    seat_kept c.self.invariant c.settled-result.new.seen c.settled-result.new.share.parts c.settled-result.new.share.amount c.settled-result.ensures.book c.settled-result.ensures.settles.legal begins c.settled-result.ensures.parts counts

pub invariant_of-self-in-Err-OutOfMemory : goal.invariant_of-self-in-Err-OutOfMemory
invariant_of-self-in-Err-OutOfMemory g c =
    let told = rw c.in-Err-OutOfMemory.is at c.settled-result.ensures.amount in
    let counts : c.settled-result.new.share.amount ≡ c.self.inside.share.amount = omega (arith, told) in
    let begins = settles_later g.L.NamesOffice.setup c.self.inside.trail.log c.self.inside.limit c.in-Some.draft c.settled-result.result c.settled-result.new.seen.log c.settled-result.ensures.settles in
    seat_kept c.self.invariant c.settled-result.new.seen c.settled-result.new.share.parts c.settled-result.new.share.amount c.settled-result.ensures.book c.settled-result.ensures.settles.legal begins c.settled-result.ensures.parts counts

pub returns-in-Ok : goal.returns-in-Ok
returns-in-Ok g c =
    let setup = g.L.NamesOffice.setup in
    let seen = c.self.inside.trail.log in
    let now = c.settled-result.new.seen.log in
    let drafted : c.self.inside.draft ≡ Some c.in-Some.draft = cc (c.in-Some.is) in
    let P : Option DocketDraft → Type 0 = λ o. DraftCommits setup o seen c.self.inside.limit (Ok c.in-Ok.done) now in
    let commits : P c.self.inside.draft = subst P (sym drafted) c.in-Ok.ensures.settles in
    let begins = settles_later setup seen c.self.inside.limit c.in-Some.draft (Ok c.in-Ok.done) now c.in-Ok.ensures.settles in
    rw (← c.self.view_is) (record {
      goes = record { number = refl; limit = refl; seen = begins };
      commits = commits;
      mine = c.push_reserved.ensures.items;
      draft = refl;
    })
