use Rattle.std.proofs.Common.{◌≡◌, ◌+◌}
use Rattle.clerk_seats.specs.Opened.{open_seats}
use Rattle.clerk_seats.proofs.office.seats_of.Given as goal

-- the seats so far are open, and each took one part
abbrev pub invariant-loop-before : goal.invariant-loop-before
invariant-loop-before g l = record {
  seats : l.seats.items ≡ open_seats l.limit l.before;
  parts : l.rest.parts + l.before ≡ l.fn.rest.parts;
  amount : l.rest.amount ≡ 0;
}
