use Rattle.std.proofs.Common.{◌≡◌, length, arith}
use Rattle.clerk_workers.proofs.WorkerLemmas.{way_joined, way_done}
use Rattle.clerk_workers.proofs.threads.join_all.Goals as goal

pub loop-clerk-preserved : goal.loop-clerk-preserved
loop-clerk-preserved g c =
    let hold = g.K.Notes.hold in
    let setup = g.L.NamesOffice.setup in
    let inv = c.loop-clerk.invariant in
    record {
      way = λ rows start way. way_joined hold setup rows start c.loop-clerk.workers.items c.push_reserved.new.self.items c.loop-clerk.hired.items c.pop.new.self.items c.in-Some.clerk c.join.result c.in-Some.ensures.items c.push_reserved.ensures.items c.join.ensures (inv.way rows start way);
      room = omega (arith, inv.room, c.in-Some.ensures.cases, c.push_reserved.ensures.len, c.push_reserved.ensures.capacity);
    }

pub returns : goal.returns
returns g c rows start way =
    let none : length c.loop-clerk.hired.items ≡ 0 = omega (arith, c.in_default.ensures.cases.0, c.loop-clerk.hired.ok) in
    way_done g.K.Notes.hold g.L.NamesOffice.setup rows start c.loop-clerk.workers.items c.loop-clerk.hired.items none (c.loop-clerk.invariant.way rows start way)
