use Rattle.std.proofs.Common.{◌≡◌, None}
use Rattle.clerk_seats.specs.Seats.{Goes}
use Rattle.clerk_seats.proofs.seat.Seat.perform.Given as goal

-- the seat has done nothing but look
abbrev pub invariant-loop-try : goal.invariant-loop-try
invariant-loop-try g l = record {
  goes : Goes l.fn.self l.self;
  mine : l.self.mine ≡ l.fn.self.mine;
  draft : l.self.draft ≡ None;
}
