use Rattle.std.proofs.Common.{◌≡◌, ◌+◌, ◌++◌, ◌≤◌, [], All, length, vec_capacity}
use Rattle.clerk_workers.specs.Workers.{IsReady, seats_at}
use Rattle.clerk_workers.proofs.workers.seat_all.Given as goal

-- the last seats have workers, who are ready
abbrev pub invariant-loop-seat : goal.invariant-loop-seat
invariant-loop-seat g l = record {
  all : l.fn.seats.items ≡ l.seats.items ++ seats_at l.workers.items;
  ready : All (IsReady g.K.Notes.hold) l.workers.items;
  as_many : length l.notes.items ≡ length l.seats.items;
  empty : All (λ n. g.K.Notes.hold n []) l.notes.items;
  room : length l.seats.items + length l.workers.items ≤ vec_capacity l.workers;
  space_for_seats : length l.seats.items + length l.workers.items ≤ vec_capacity l.seats;
  space_for_notes : length l.seats.items + length l.workers.items ≤ vec_capacity l.notes;
}

abbrev pub decreases-loop-seat : goal.decreases-loop-seat
decreases-loop-seat g l = length l.seats.items
